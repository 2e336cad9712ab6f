use Rattle.std.proofs.Common.{ℕ, ◌<◌}
use Rattle.location_terms.specs.Instance.{site_at}
use Rattle.location_terms.specs.Plain.{IsOpenToAll}
use Rattle.set_walk.proofs.plain.is_plain.Given as goal

abbrev pub invariant-loop-site : goal.invariant-loop-site
invariant-loop-site l = (k : ℕ) → k < l.site → IsOpenToAll l.inst (site_at l.inst k)

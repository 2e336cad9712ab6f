use Rattle.std.proofs.Common.{ℕ, ◌<◌, ◌≡◌}
use Rattle.std.specs.Prelude.{None}
use Rattle.location_terms.specs.Instance.{site_at}
use Rattle.plan_search.proofs.caps.has_no_caps.Given as goal

abbrev pub invariant-loop-site : goal.invariant-loop-site
invariant-loop-site l = (k : ℕ) → k < l.site → (site_at l.inst k).cap ≡ None

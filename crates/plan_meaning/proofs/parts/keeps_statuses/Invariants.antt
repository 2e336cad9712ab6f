use Rattle.std.proofs.Common.{ℕ, ◌<◌}
use Rattle.location_terms.specs.Instance.{site_at}
use Rattle.location_terms.specs.Plan.{KeepsStatus}
use Rattle.plan_meaning.proofs.parts.keeps_statuses.Given as goal

abbrev pub invariant-loop-i : goal.invariant-loop-i
invariant-loop-i l = (j : ℕ) → j < l.i → KeepsStatus l.plan (site_at l.inst j).id (site_at l.inst j).status

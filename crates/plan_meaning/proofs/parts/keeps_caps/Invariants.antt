use Rattle.std.proofs.Common.{ℕ, ◌<◌}
use Rattle.location_terms.specs.Instance.{site_at}
use Rattle.plan_meaning.specs.PlanFault.{KeepsCap}
use Rattle.plan_meaning.proofs.parts.keeps_caps.Given as goal

abbrev pub invariant-loop-i : goal.invariant-loop-i
invariant-loop-i l = (j : ℕ) → j < l.i → KeepsCap l.inst l.plan (site_at l.inst j)

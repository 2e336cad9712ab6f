use Rattle.std.proofs.Common.{ℕ, ◌<◌, get_or}
use Rattle.location_terms.specs.declared.decision.Decision.{Decision}
use Rattle.dual_value.specs.SiteState.{LeavesWhole}
use Rattle.dual_value.proofs.settled.is_torn.Given as goal

abbrev pub invariant-loop-step : goal.invariant-loop-step
invariant-loop-step l = (k : ℕ) (d : Decision) → k < l.step-index → LeavesWhole l.inst l.path (get_or l.path k d)

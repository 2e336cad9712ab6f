use Rattle.std.proofs.Common.{take}
use Rattle.dual_value.specs.PreparedSites.{AreStates}
use Rattle.dual_value.proofs.preparing.site_states.Given as goal

abbrev pub invariant-loop-step : goal.invariant-loop-step
invariant-loop-step l = AreStates l.inst (take l.step-index l.path) l.states.items

use Rattle.std.proofs.Common.{◌≡◌}
use Rattle.whole_steps.proofs.steps.WholeSteps.average.Given as goal

abbrev pub invariant-loop-step : goal.invariant-loop-step
invariant-loop-step l = record { sizes : l.self ≡ l.initial.self }

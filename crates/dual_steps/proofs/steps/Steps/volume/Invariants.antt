use Rattle.std.proofs.Common.{◌≡◌}
use Rattle.dual_steps.proofs.steps.Steps.volume.Given as goal

abbrev pub invariant-loop-step : goal.invariant-loop-step
invariant-loop-step l = record { sizes : l.self ≡ l.initial.self }

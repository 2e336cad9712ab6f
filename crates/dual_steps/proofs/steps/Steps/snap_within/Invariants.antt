use Rattle.std.proofs.Common.{◌≡◌}
use Rattle.dual_steps.proofs.steps.Steps.snap_within.Given as goal

abbrev pub invariant-loop-fraction : goal.invariant-loop-fraction
invariant-loop-fraction l = record { sizes : l.self ≡ l.initial.self }

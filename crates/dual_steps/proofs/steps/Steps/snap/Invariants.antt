use Rattle.std.proofs.Common.{◌≡◌}
use Rattle.dual_steps.proofs.steps.Steps.snap.Given as goal

abbrev pub invariant-loop-k : goal.invariant-loop-k
invariant-loop-k l = record { sizes : l.self ≡ l.initial.self }

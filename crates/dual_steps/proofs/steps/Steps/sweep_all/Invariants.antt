use Rattle.std.proofs.Common.{◌≡◌}
use Rattle.dual_steps.proofs.steps.Steps.sweep_all.Given as goal

abbrev pub invariant-loop-turn : goal.invariant-loop-turn
invariant-loop-turn l = record { sizes : l.self ≡ l.initial.self }

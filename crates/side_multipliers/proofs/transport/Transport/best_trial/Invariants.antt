use Rattle.std.proofs.Common.{◌≡◌}
use Rattle.side_multipliers.proofs.transport.Transport.best_trial.Given as goal

abbrev pub invariant-loop-trial : goal.invariant-loop-trial
invariant-loop-trial l = record { sizes : l.self ≡ l.initial.self }

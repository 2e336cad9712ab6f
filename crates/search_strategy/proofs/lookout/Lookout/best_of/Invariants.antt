use Rattle.std.proofs.Common.{◌≡◌}
use Rattle.search_strategy.proofs.lookout.Lookout.best_of.Given as goal

abbrev pub invariant-loop-k : goal.invariant-loop-k
invariant-loop-k l = l.steps ≡ l.fn.steps

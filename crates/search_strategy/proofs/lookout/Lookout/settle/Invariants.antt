use Rattle.std.proofs.Common.{◌≡◌}
use Rattle.search_strategy.proofs.lookout.Lookout.settle.Given as goal

abbrev pub invariant-loop-round : goal.invariant-loop-round
invariant-loop-round l = l.steps ≡ l.fn.steps

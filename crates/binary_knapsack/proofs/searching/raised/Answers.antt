use Rattle.binary_knapsack.proofs.Choices.{raised_to_last}
use Rattle.binary_knapsack.proofs.searching.raised.Goals as goal

pub returns : goal.returns
returns c = λ rest. raised_to_last rest c.args.reached c.in-Some.last.now c.args.choices.now _ c.in-Some.ensures.value c.if-last-reached.false

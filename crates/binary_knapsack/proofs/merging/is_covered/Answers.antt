use Rattle.binary_knapsack.proofs.Choices.{at_last}
use Rattle.binary_knapsack.proofs.merging.is_covered.Goals as goal

pub returns-then-last-choice : goal.returns-then-last-choice
returns-then-last-choice c = λ worth rest. at_last rest c.args.choice.now c.in-Some.last.now c.args.choices.now _ c.in-Some.ensures.value c.if-last-choice.true worth

use Rattle.binary_knapsack.specs.Loads.{Choice}
use Rattle.binary_knapsack.proofs.Steps.{greatest_more, greatest_same, greatest_end}
use Rattle.binary_knapsack.proofs.searching.greatest.Goals as goal
use Rattle.binary_knapsack.proofs.searching.greatest.Goals.{then-choice-best, else-choice-best}

pub loop-choice-preserved : goal.loop-choice-preserved
loop-choice-preserved c =
    let d : Choice = record { room = 0; worth = 0 } in
    elim c.if-choice-best.branch [
      | then-choice-best w ↦ rw w.best-is (greatest_more c.args.choices.now c.loop-choice.choice-index d c.loop-choice.best _ c.loop-choice-test.true w.if-choice-best.true c.loop-choice.invariant)
      | else-choice-best w ↦ rw w.best-is (greatest_same c.args.choices.now c.loop-choice.choice-index d c.loop-choice.best _ c.loop-choice-test.true w.if-choice-best.false c.loop-choice.invariant)
    ]

pub returns : goal.returns
returns c = greatest_end c.args.choices.now c.loop-choice.choice-index c.loop-choice.best _ c.loop-choice-test.false c.loop-choice.invariant

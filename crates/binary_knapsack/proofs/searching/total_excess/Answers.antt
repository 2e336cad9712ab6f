use Rattle.std.proofs.Common.{arith}
use Rattle.std.proofs.lemmas.List.Sums.{sum_by_more_le}
use Rattle.binary_knapsack.specs.Loads.{Load}
use Rattle.binary_knapsack.specs.Bounds.{excess}
use Rattle.binary_knapsack.proofs.Steps.{excess_within}
use Rattle.binary_knapsack.proofs.searching.total_excess.Goals as goal

pub overflow_add-sum : goal.overflow_add-sum
overflow_add-sum c =
    let d : Load = record { weight = 0; worth = 0 } in
    omega (arith, sum_by_more_le (excess c.args.price) c.args.loads.now c.loop-load.load-index d c.loop-load-test.true, excess_within c.args.price c.args.loads.now, c.excess-sum.ensures, c.loop-load.invariant)

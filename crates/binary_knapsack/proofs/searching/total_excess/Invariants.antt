use Rattle.std.proofs.Common.{◌≡◌, take}
use Rattle.std.specs.Prelude.{sum_by}
use Rattle.binary_knapsack.specs.Bounds.{excess}
use Rattle.binary_knapsack.proofs.searching.total_excess.Given as goal

abbrev pub invariant-loop-load : goal.invariant-loop-load
invariant-loop-load l = l.sum ≡ sum_by (excess l.price) (take l.load-index l.loads)

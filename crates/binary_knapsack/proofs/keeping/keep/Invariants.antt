use Rattle.std.proofs.Common.{◌≡◌, take}
use Rattle.binary_knapsack.specs.Loads.{kept}
use Rattle.binary_knapsack.proofs.keeping.keep.Given as goal

abbrev pub invariant-loop-item : goal.invariant-loop-item
invariant-loop-item l = l.loads.items ≡ kept l.cap (take l.item-index l.items)

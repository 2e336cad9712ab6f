use Rattle.std.proofs.Common.{◌≡◌, drop, max}
use Rattle.std.specs.Prelude.{sum_by}
use Rattle.binary_knapsack.specs.Loads.{most, reach}
use Rattle.binary_knapsack.specs.Bounds.{excess}
use Rattle.binary_knapsack.proofs.searching.search_sorted.Given as goal

abbrev pub invariant-loop-k : goal.invariant-loop-k
invariant-loop-k l = record {
  same : max l.limit.best (reach (drop l.k l.loads) l.now.items) ≡ max l.known (most l.cap l.loads);
  gain : l.limit.gain ≡ sum_by (excess l.limit.price) (drop l.k l.loads);
}

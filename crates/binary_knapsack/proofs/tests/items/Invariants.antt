use Rattle.std.proofs.Common.{◌≤◌, ◌≤ℤ◌, length, All}
use Rattle.binary_knapsack.specs.declared.room.TheConstants.{MAX_WORTH}
use Rattle.binary_knapsack.proofs.tests.items.Given as goal

abbrev pub invariant-loop-weight : goal.invariant-loop-weight
invariant-loop-weight l = record {
  count : length l.items.items ≤ l.weight-index;
  small : All (λ x. x.worth ≤ℤ MAX_WORTH) l.items.items;
}

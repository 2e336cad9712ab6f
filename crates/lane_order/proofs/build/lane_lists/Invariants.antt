use Rattle.std.proofs.Common.{◌≡◌, ℕ, ◌<◌, length, slice_index_or}
use Rattle.lane_order.specs.Listed.{Listed}
use Rattle.lane_order.specs.Building.{AreSortedLanes}
use Rattle.lane_order.proofs.build.lane_lists.Given as goal

-- a list for each customer so far
abbrev pub invariant-loop-cust : goal.invariant-loop-cust
invariant-loop-cust l = record {
  count : length l.lists.items ≡ l.cust;
  each : (j : ℕ) (d : Listed) → j < l.cust → AreSortedLanes l.inst j (slice_index_or l.lists.items j d).lanes;
}

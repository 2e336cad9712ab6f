use Rattle.std.proofs.Common.{ℕ, ◌<◌, ◌≤◌, get_or}
use Rattle.lane_order.specs.Listed.{Listed}
use Rattle.lane_order.specs.Grown.{HaveGrown}
use Rattle.lane_order.proofs.lane_list.reserve_each.Given as goal

-- all have grown, and those so far have the room
abbrev pub invariant-loop-cust : goal.invariant-loop-cust
invariant-loop-cust l = record {
  kept : HaveGrown l.initial.lists l.lists;
  room : (j : ℕ) (d : Listed) → j < l.cust → l.more ≤ (get_or l.lists j d).spare;
}

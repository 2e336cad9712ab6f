use Rattle.std.proofs.Common.{◌≡◌, ◌++◌, map, take, drop}
use Rattle.lane_order.specs.Listed.{lane_down}
use Rattle.lane_order.proofs.shifting.shift_down.Given as goal

-- the lanes so far, and those that are left
abbrev pub invariant-loop-k : goal.invariant-loop-k
invariant-loop-k l = l.lanes ≡ map (lane_down l.place) (take l.k l.initial.lanes) ++ drop l.k l.initial.lanes

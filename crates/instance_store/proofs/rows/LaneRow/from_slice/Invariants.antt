use Rattle.std.proofs.Common.{◌≡◌, take}
use Rattle.instance_store.proofs.rows.LaneRow.from_slice.Given as goal

-- the lanes so far
abbrev pub invariant-loop-lane : goal.invariant-loop-lane
invariant-loop-lane l = l.row ≡ take l.lane-index l.lanes

use Rattle.std.proofs.Common.{ap}
use Rattle.std.specs.Prelude.{is_some}
use Rattle.lane_order.proofs.Walks.{placed_is_lane}
use Rattle.side_multipliers.proofs.box_lanes.put_allowed.Goals as goal

pub admits-requires-clause-lane : goal.admits-requires-clause-lane
admits-requires-clause-lane c =
    ap is_some (placed_is_lane c.args.boxed.now.instance c.args.order.now c.requires.order c.args.cust c.requires.customer c.lanes-lane-items.result.now c.lanes-lane-items.ensures.exact c.lanes-lane-items.ensures.known c.loop-lane.lane-index _ c.loop-lane-test.true)

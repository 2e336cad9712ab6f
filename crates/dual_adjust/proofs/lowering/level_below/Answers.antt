use Rattle.std.proofs.Common.{sym, ◌∙◌, arith}
use Rattle.dual_adjust.proofs.LanesPaid.{rank_is_lane, rank_is_small}
use Rattle.dual_adjust.proofs.Greatest.{none_found, found_next, found_before, found_all}
use Rattle.dual_adjust.proofs.lowering.level_below.Goals as goal

pub loop-lane-init : goal.loop-lane-init
loop-lane-init c = none_found c.args.boxed.now.instance c.args.boxed.now.path c.args.duals.now c.args.order.now c.args.cust c.lanes_of-lane-items.result.now c.lanes_of-lane-items.ensures

pub is_dear-requires-clause-cost : goal.is_dear-requires-clause-cost
is_dear-requires-clause-cost c = rank_is_small _ c.args.boxed.now.path c.args.duals.now _ _ _ c.lanes_of-lane-items.ensures c.loop-lane.lane-index c.loop-lane-test.true

pub returns-then-is_dear : goal.returns-then-is_dear
returns-then-is_dear c = found_before c.args.boxed.now.instance c.args.boxed.now.path c.args.duals.now c.args.order.now c.args.cust c.lanes_of-lane-items.result.now c.lanes_of-lane-items.ensures c.loop-lane.greatest c.loop-lane.lane-index c.loop-lane-test.true (sym c.is_dear.ensures ∙ c.if-is_dear.true) c.loop-lane.invariant

pub paid_level-level-requires-clause-lane : goal.paid_level-level-requires-clause-lane
paid_level-level-requires-clause-lane c = rank_is_lane _ c.args.boxed.now.path c.args.duals.now _ _ _ c.lanes_of-lane-items.ensures c.loop-lane.lane-index c.loop-lane-test.true

pub paid_level-level-requires-clause-small : goal.paid_level-level-requires-clause-small
paid_level-level-requires-clause-small c = rank_is_small _ c.args.boxed.now.path c.args.duals.now _ _ _ c.lanes_of-lane-items.ensures c.loop-lane.lane-index c.loop-lane-test.true

pub loop-lane-preserved : goal.loop-lane-preserved
loop-lane-preserved c = found_next c.args.boxed.now.instance c.args.boxed.now.path c.args.duals.now c.args.order.now c.args.cust c.lanes_of-lane-items.result.now c.lanes_of-lane-items.ensures c.loop-lane.greatest c.paid_level-level.result c.greater-greatest.result c.loop-lane.lane-index c.loop-lane.invariant c.paid_level-level.ensures c.greater-greatest.ensures

pub returns : goal.returns
returns c = found_all c.args.boxed.now.instance c.args.boxed.now.path c.args.duals.now c.args.order.now c.args.cust c.lanes_of-lane-items.result.now c.lanes_of-lane-items.ensures c.loop-lane.greatest c.loop-lane.lane-index (omega arith) c.loop-lane.invariant

use Rattle.std.proofs.Common.{◌+◌, sym, subst, ◌∙◌, arith}
use Rattle.dual_adjust.proofs.MoreThanOne.{IsSeen, seen_next, seen_first}
use Rattle.dual_adjust.proofs.LanesPaid.{pays_tight, site_of, rank_is_lane, rank_is_small, none_seen, at_second, at_dear, at_last}
use Rattle.dual_adjust.proofs.lowering.pays_two_tight.Goals as goal
use Rattle.dual_adjust.proofs.lowering.pays_two_tight.Goals.{then-pays_tight+else-paid, else-pays_tight}

pub loop-lane-init : goal.loop-lane-init
loop-lane-init c = none_seen c.args.boxed.now.instance c.args.boxed.now.path c.args.duals.now c.args.order.now c.args.cust c.lanes_of-lane-items.result.now c.lanes_of-lane-items.ensures

pub is_dear-requires-clause-cost : goal.is_dear-requires-clause-cost
is_dear-requires-clause-cost c = rank_is_small _ c.args.boxed.now.path c.args.duals.now _ _ _ c.lanes_of-lane-items.ensures c.loop-lane.lane-index c.loop-lane-test.true

pub returns-then-is_dear : goal.returns-then-is_dear
returns-then-is_dear c = at_dear c.args.boxed.now.instance c.args.boxed.now.path c.args.duals.now c.args.order.now c.args.cust c.lanes_of-lane-items.result.now c.lanes_of-lane-items.ensures c.loop-lane.paid c.loop-lane.lane-index c.loop-lane-test.true (sym c.is_dear.ensures ∙ c.if-is_dear.true) c.loop-lane.invariant

pub pays_tight-requires-clause-lane : goal.pays_tight-requires-clause-lane
pays_tight-requires-clause-lane c = rank_is_lane _ c.args.boxed.now.path c.args.duals.now _ _ _ c.lanes_of-lane-items.ensures c.loop-lane.lane-index c.loop-lane-test.true

pub pays_tight-requires-clause-small : goal.pays_tight-requires-clause-small
pays_tight-requires-clause-small c = rank_is_small _ c.args.boxed.now.path c.args.duals.now _ _ _ c.lanes_of-lane-items.ensures c.loop-lane.lane-index c.loop-lane-test.true

pub returns-then-paid : goal.returns-then-paid
returns-then-paid c = at_second c.args.boxed.now.instance c.args.boxed.now.path c.args.duals.now c.args.order.now c.args.cust c.lanes_of-lane-items.result.now c.lanes_of-lane-items.ensures c.loop-lane.paid c.loop-lane.lane-index c.loop-lane-test.true c.if-paid.true c.loop-lane.invariant (sym c.pays_tight.ensures ∙ c.if-pays_tight.true)

pub loop-lane-preserved : goal.loop-lane-preserved
loop-lane-preserved c =
    let walk = c.lanes_of-lane-items.ensures in
    let I = c.args.boxed.now.instance in
    let path = c.args.boxed.now.path in
    let d = c.args.duals.now in
    let lanes = c.lanes_of-lane-items.result.now in
    let k = c.loop-lane.lane-index in
    let passes = pays_tight I path d c.args.order.now c.args.cust lanes walk in
    let at = site_of I path d c.args.order.now c.args.cust lanes walk in
    elim c.if-pays_tight.branch [
      | then-pays_tight+else-paid w ↦ subst (IsSeen passes at (k + 1)) (sym w.paid-is) (seen_first passes at k (subst (IsSeen passes at k) w.if-paid.false c.loop-lane.invariant) (sym c.pays_tight.ensures ∙ w.if-pays_tight.true))
      | else-pays_tight w ↦ subst (IsSeen passes at (k + 1)) (sym w.paid-is) (seen_next passes at c.loop-lane.paid k c.loop-lane.invariant (sym c.pays_tight.ensures ∙ w.if-pays_tight.false))
    ]

pub returns : goal.returns
returns c = at_last c.args.boxed.now.instance c.args.boxed.now.path c.args.duals.now c.args.order.now c.args.cust c.lanes_of-lane-items.result.now c.lanes_of-lane-items.ensures c.loop-lane.paid c.loop-lane.lane-index (omega arith) c.loop-lane.invariant

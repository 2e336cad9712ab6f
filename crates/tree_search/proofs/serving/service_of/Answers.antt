use Rattle.std.proofs.Common.{◌≡◌, ◌+◌, sym, subst, ◌∙◌, length, arith}
use Rattle.dual_adjust.proofs.LanesPaid.{walk_of}
use Rattle.tree_search.specs.Service.{IsServiceOf}
use Rattle.tree_search.proofs.ServedLanes.{IsFound, rank_has_lane, found_still, found_first, found_second, found_all}
use Rattle.tree_search.proofs.serving.service_of.Goals as goal
use Rattle.tree_search.proofs.serving.service_of.Goals.{then-admits+in-None, else-admits}

pub admits-requires-clause-lane : goal.admits-requires-clause-lane
admits-requires-clause-lane c =
    let walk = walk_of _ _ c.instance.ensures c.custs-custs.ensures.valid c.requires.order c.requires.customer c.lanes-lane-items.ensures.exact c.lanes-lane-items.ensures.known c.lanes-lane-items.ensures.rising in
    rank_has_lane c.args.boxed.now.instance c.args.boxed.now.path c.args.order.now c.args.cust c.lanes-lane-items.result.now walk c.loop-lane.lane-index c.loop-lane-test.true

pub returns-in-Some : goal.returns-in-Some
returns-in-Some c =
    let walk = walk_of _ _ c.instance.ensures c.custs-custs.ensures.valid c.requires.order c.requires.customer c.lanes-lane-items.ensures.exact c.lanes-lane-items.ensures.known c.lanes-lane-items.ensures.rising in
    let I = c.args.boxed.now.instance in
    let path = c.args.boxed.now.path in
    let lanes = c.lanes-lane-items.result.now in
    let k = c.loop-lane.lane-index in
    found_second I path c.args.order.now c.args.cust lanes walk c.in-Some.site k (subst (IsFound I path c.args.cust lanes k) c.in-Some.is c.loop-lane.invariant) c.loop-lane-test.true (sym c.admits.ensures ∙ c.if-admits.true)

pub loop-lane-preserved : goal.loop-lane-preserved
loop-lane-preserved c =
    let walk = walk_of _ _ c.instance.ensures c.custs-custs.ensures.valid c.requires.order c.requires.customer c.lanes-lane-items.ensures.exact c.lanes-lane-items.ensures.known c.lanes-lane-items.ensures.rising in
    let I = c.args.boxed.now.instance in
    let path = c.args.boxed.now.path in
    let lanes = c.lanes-lane-items.result.now in
    let k = c.loop-lane.lane-index in
    elim c.if-admits.branch [
      | then-admits+in-None w ↦
          subst (IsFound I path c.args.cust lanes (k + 1)) (sym w.first-is)
          (found_first I path c.args.order.now c.args.cust lanes walk k (subst (IsFound I path c.args.cust lanes k) w.in-None.is c.loop-lane.invariant) (sym c.admits.ensures ∙ w.if-admits.true))
      | else-admits w ↦
          subst (IsFound I path c.args.cust lanes (k + 1)) (sym w.first-is)
          (found_still I path c.args.order.now c.args.cust lanes walk c.loop-lane.first k c.loop-lane.invariant (sym c.admits.ensures ∙ w.if-admits.false))
    ]

pub returns : goal.returns
returns c =
    let walk = walk_of _ _ c.instance.ensures c.custs-custs.ensures.valid c.requires.order c.requires.customer c.lanes-lane-items.ensures.exact c.lanes-lane-items.ensures.known c.lanes-lane-items.ensures.rising in
    let I = c.args.boxed.now.instance in
    let path = c.args.boxed.now.path in
    let lanes = c.lanes-lane-items.result.now in
    let at_end : c.loop-lane.lane-index ≡ length lanes = omega (arith, c.loop-lane-test.false, c.loop-lane.auto.lane-index-end) in
    subst (IsServiceOf I path c.args.cust) (sym c.only.ensures)
    (found_all I path c.args.order.now c.args.cust lanes walk c.loop-lane.first (subst (λ n. IsFound I path c.args.cust lanes n c.loop-lane.first) at_end c.loop-lane.invariant))

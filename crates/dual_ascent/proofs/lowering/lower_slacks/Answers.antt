use Rattle.std.proofs.Common.{◌≡◌, ◌+◌, ◌*◌, length, get_or, ℤ, List, pos, ◌<ℤ◌, sym, refl, subst, ◌∙◌, arith}
use mir.Syntax.{w128}
use mir.Val.{to_z, of_z}
use Rattle.std.proofs.lemmas.Bool.{false≢true}
use Rattle.location_terms.specs.Bound.{v_at}
use Rattle.lane_order.specs.declared.order.PlacedLane.{PlacedLane}
use Rattle.lane_order.proofs.Spread.{IsSpread, spread_none}
use Rattle.dual_ascent.proofs.Tested.{int_lt-less}
use Rattle.dual_ascent.proofs.Sized.{scaled_level, value_bits}
use Rattle.dual_ascent.proofs.Lowered.{amount, lowered_all, past_unreached, unreached_next, lowering_fits, reached_next}
use Rattle.dual_ascent.proofs.lowering.lower_slacks.Goals as goal
use Rattle.dual_ascent.proofs.lowering.lower_slacks.Goals.{then-is_reached, else-is_reached}

pub scaled-requires : goal.scaled-requires
scaled-requires c = c.lanes_of-lanes.ensures.walk.small c.loop-lane.lane-index (record { cost = 0; site = 0 }) c.loop-lane-test.true

pub is_reached-requires-clause-lane : goal.is_reached-requires-clause-lane
is_reached-requires-clause-lane c = c.lanes_of-lanes.ensures.walk.is_lane c.loop-lane.lane-index (record { cost = 0; site = 0 }) c.loop-lane-test.true

pub loop-lane-init : goal.loop-lane-init
loop-lane-init c =
    let I = c.args.boxed.now.instance in
    let path = c.args.boxed.now.path in
    let d = c.args.duals.now in
    let j = c.args.cust in
    let lanes = c.lanes_of-lanes.result.now in
    spread_none lanes (amount I path d c.requires.valid c.requires.tame j c.requires.customer c.requires.free) c.args.slacks.now

pub returns-then-value-scaled : goal.returns-then-value-scaled
returns-then-value-scaled c =
    let I = c.args.boxed.now.instance in
    let path = c.args.boxed.now.path in
    let d = c.args.duals.now in
    let j = c.args.cust in
    let lanes = c.lanes_of-lanes.result.now in
    let walk = c.lanes_of-lanes.ensures.walk in
    let k = c.loop-lane.lane-index in
    let e : PlacedLane = record { cost = 0; site = 0 } in
    let level : to_z w128 (of_z w128 c.scaled.result) ≡ pos (d.q * (get_or lanes k e).cost) = scaled_level d c.scaled.result c.q-q.result (get_or lanes k e).cost c.scaled.ensures c.q-q.ensures c.requires.tame.fit.in_limits.scale (walk.small k e c.loop-lane-test.true) in
    let value = value_bits I path d c.requires.valid c.requires.tame.fit j c.requires.customer c.v-value.result c.v-value.ensures in
    let over : v_at d j <ℤ pos (d.q * (get_or lanes k e).cost) = subst (λ v. v <ℤ pos (d.q * (get_or lanes k e).cost)) value (subst (λ l. to_z w128 (of_z w128 c.v-value.result) <ℤ l) level (int_lt-less _ _ c.if-value-scaled.true)) in
    lowered_all I path d c.requires.valid c.requires.tame j c.requires.customer c.requires.free c.args.order.now c.requires.order lanes c.lanes_of-lanes.ensures.exact c.lanes_of-lanes.ensures.known c.args.slacks.now c.requires.slacks walk k c.loop-lane.slacks (omega arith) c.loop-lane.invariant (λ m f later inside. past_unreached I path d c.requires.valid c.requires.tame j c.requires.customer c.requires.free lanes walk k m e f later inside over)

pub overflow_sub-slacks : goal.overflow_sub-slacks
overflow_sub-slacks c =
    let I = c.args.boxed.now.instance in
    let path = c.args.boxed.now.path in
    let d = c.args.duals.now in
    let e : PlacedLane = record { cost = 0; site = 0 } in
    let reached = c.is_reached.ensures.0 c.if-is_reached.true in
    lowering_fits I path d c.requires.valid c.requires.tame c.args.cust c.requires.customer c.requires.free c.args.order.now c.requires.order c.lanes_of-lanes.result.now c.lanes_of-lanes.ensures.exact c.lanes_of-lanes.ensures.known c.args.slacks.now c.requires.slacks c.lanes_of-lanes.ensures.walk c.loop-lane.lane-index e c.loop-lane-test.true c.loop-lane.slacks c.loop-lane.invariant reached c.args.by c.requires.by

pub loop-lane-preserved : goal.loop-lane-preserved
loop-lane-preserved c =
    let I = c.args.boxed.now.instance in
    let path = c.args.boxed.now.path in
    let d = c.args.duals.now in
    let j = c.args.cust in
    let lanes = c.lanes_of-lanes.result.now in
    let k = c.loop-lane.lane-index in
    let e : PlacedLane = record { cost = 0; site = 0 } in
    let After : List ℤ → Type 0 = IsSpread lanes (amount I path d c.requires.valid c.requires.tame j c.requires.customer c.requires.free) (k + 1) c.args.slacks.now in
    elim c.if-is_reached.branch [
      | then-is_reached w ↦ subst After (sym w.slacks-is) (reached_next I path d c.requires.valid c.requires.tame j c.requires.customer c.requires.free c.args.order.now c.requires.order lanes c.lanes_of-lanes.ensures.exact c.lanes_of-lanes.ensures.known c.args.slacks.now c.requires.slacks c.lanes_of-lanes.ensures.walk k e c.loop-lane-test.true c.loop-lane.slacks c.loop-lane.invariant (c.is_reached.ensures.0 w.if-is_reached.true) c.args.by c.requires.by _ refl)
      | else-is_reached w ↦ subst After (sym w.slacks-is) (unreached_next I path d c.requires.valid c.requires.tame j c.requires.customer c.requires.free c.args.order.now c.requires.order lanes c.lanes_of-lanes.ensures.exact c.lanes_of-lanes.ensures.known c.args.slacks.now c.requires.slacks c.lanes_of-lanes.ensures.walk k e c.loop-lane-test.true c.loop-lane.slacks c.loop-lane.invariant (λ reached. false≢true (sym w.if-is_reached.false ∙ c.is_reached.ensures.1 reached)))
    ]

pub returns : goal.returns
returns c =
    let lanes = c.lanes_of-lanes.result.now in
    let k = c.loop-lane.lane-index in
    let all : k ≡ length lanes = omega arith in
    lowered_all c.args.boxed.now.instance c.args.boxed.now.path c.args.duals.now c.requires.valid c.requires.tame c.args.cust c.requires.customer c.requires.free c.args.order.now c.requires.order lanes c.lanes_of-lanes.ensures.exact c.lanes_of-lanes.ensures.known c.args.slacks.now c.requires.slacks c.lanes_of-lanes.ensures.walk k c.loop-lane.slacks (omega arith) c.loop-lane.invariant (λ m f later inside. absurd (omega (arith, all, later, inside)))

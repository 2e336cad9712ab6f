use Rattle.std.proofs.Common.{◌≡◌, ◌+◌, ◌*◌, ◌+ℤ◌, ◌≤ℤ◌, get_or, ℕ, ℤ, pos, Option, Some, sym, ap, subst, ◌∙◌, arith}
use mir.Syntax.{w128}
use mir.Val.{to_z, of_z}
use Rattle.std.specs.Prelude.{MatchOption, is_some}
use Rattle.std.proofs.lemmas.Int.{to_z-of_z}
use Rattle.location_terms.specs.Instance.{Instance, customer_at}
use Rattle.location_terms.specs.Bound.{level_at}
use Rattle.lane_order.specs.declared.order.PlacedLane.{PlacedLane}
use Rattle.dual_ascent.specs.Ascent.{lesser}
use Rattle.dual_ascent.proofs.Sized.{scaled_level, scaled_size, level_is}
use Rattle.dual_ascent.proofs.Walked.{IsPassed}
use Rattle.dual_ascent.proofs.Seated.{IsLeastOf, barred_passed, level_passed, level_cut, level_end}
use Rattle.dual_ascent.proofs.seating.least_level.Goals as goal
use Rattle.dual_ascent.proofs.seating.least_level.Goals.{then-admits, else-admits}

pub scaled-requires : goal.scaled-requires
scaled-requires c = c.lanes_of-lanes.ensures.walk.small c.loop-lane.lane-index (record { cost = 0; site = 0 }) c.loop-lane-test.true

pub is_within-requires-clause-level : goal.is_within-requires-clause-level
is_within-requires-clause-level c =
    let e : PlacedLane = record { cost = 0; site = 0 } in
    let k = c.loop-lane.lane-index in
    scaled_size c.scaled.result c.q-q.result (get_or c.lanes_of-lanes.result.now k e).cost c.scaled.ensures (omega (arith, c.q-q.ensures, c.requires.fit.in_limits.scale)) (c.lanes_of-lanes.ensures.walk.small k e c.loop-lane-test.true)

pub returns-then-is_within : goal.returns-then-is_within
returns-then-is_within c =
    let d = c.args.duals.now in
    let lanes = c.lanes_of-lanes.result.now in
    let walk = c.lanes_of-lanes.ensures.walk in
    let k = c.loop-lane.lane-index in
    let e : PlacedLane = record { cost = 0; site = 0 } in
    let level : to_z w128 (of_z w128 c.scaled.result) ≡ pos (d.q * (get_or lanes k e).cost) = scaled_level d c.scaled.result c.q-q.result (get_or lanes k e).cost c.scaled.ensures c.q-q.ensures c.requires.fit.in_limits.scale (walk.small k e c.loop-lane-test.true) in
    let Far : ℤ → Type 0 = λ l. MatchOption c.loop-lane.least ⊥ (λ m. (pos 0 +ℤ m) ≤ℤ l) in
    level_cut c.args.boxed.now.instance c.args.boxed.now.path d c.args.cust lanes walk c.loop-lane.least k e c.loop-lane.invariant (subst Far level (c.is_within.ensures.0 c.if-is_within.true))

pub admits-requires-clause-lane : goal.admits-requires-clause-lane
admits-requires-clause-lane c =
    let e : PlacedLane = record { cost = 0; site = 0 } in
    ap (λ (o : Option ℕ). is_some o) (c.lanes_of-lanes.ensures.walk.is_lane c.loop-lane.lane-index e c.loop-lane-test.true)

pub level-requires-clause-cost : goal.level-requires-clause-cost
level-requires-clause-cost c = c.lanes_of-lanes.ensures.walk.small c.loop-lane.lane-index (record { cost = 0; site = 0 }) c.loop-lane-test.true

pub loop-lane-preserved : goal.loop-lane-preserved
loop-lane-preserved c =
    let I = c.args.boxed.now.instance in
    let path = c.args.boxed.now.path in
    let d = c.args.duals.now in
    let j = c.args.cust in
    let lanes = c.lanes_of-lanes.result.now in
    let walk = c.lanes_of-lanes.ensures.walk in
    let k = c.loop-lane.lane-index in
    let e : PlacedLane = record { cost = 0; site = 0 } in
    let After : Option ℤ → Type 0 = IsLeastOf I path d j (IsPassed lanes (k + 1)) in
    elim c.if-admits.branch [
      | then-admits w ↦
          let i = (get_or lanes k e).site in
          let costs = walk.is_lane k e c.loop-lane-test.true in
          let demands : c.demand-demand.result ≡ (customer_at I j).demand = c.demand-demand.ensures.exact ∙ ap (λ (J : Instance). (customer_at J j).demand) c.instance.ensures in
          let is : w.level.result ≡ level_at I d i j = level_is I d i j c.q-q.result (get_or lanes k e).cost w.u.result c.demand-demand.result w.level.result w.level.ensures c.q-q.ensures w.u.ensures demands costs in
          let level_kept = to_z-of_z w128 w.level.result (record { sfits = w.level.type_inv }) in
          let lesser_kept = to_z-of_z w128 w.lesser.result (record { sfits = w.lesser.type_inv }) in
          let lesser_is : Some w.lesser.result ≡ lesser c.loop-lane.least (Some w.level.result) = w.lesser.ensures ∙ ap (λ (x : ℤ). lesser c.loop-lane.least (Some x)) level_kept in
          subst After (sym (w.least-is ∙ ap (λ (x : ℤ). Some x) lesser_kept)) (level_passed I path d j lanes walk c.loop-lane.least k e c.loop-lane-test.true c.loop-lane.invariant (sym c.admits.ensures ∙ w.if-admits.true) w.level.result w.lesser.result is lesser_is)
      | else-admits w ↦ subst After (sym w.least-is) (barred_passed I path d j lanes walk c.loop-lane.least k e c.loop-lane.invariant (sym c.admits.ensures ∙ w.if-admits.false))
    ]

pub returns : goal.returns
returns c = level_end c.args.boxed.now.instance c.args.boxed.now.path c.args.duals.now c.args.cust c.lanes_of-lanes.result.now c.lanes_of-lanes.ensures.walk c.loop-lane.least c.loop-lane.lane-index (omega arith) c.loop-lane.invariant

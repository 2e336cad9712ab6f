use Rattle.std.proofs.Common.{◌≡◌, ◌+◌, ◌*◌, ◌≤◌, ◌+ℤ◌, ◌≤ℤ◌, get_or, ℤ, pos, Option, Some, sym, ap, subst, ◌∙◌, arith}
use mir.Syntax.{w128}
use mir.Val.{to_z, of_z}
use Rattle.std.specs.Prelude.{MatchOption, unsigned_abs}
use Rattle.std.proofs.lemmas.Int.{to_z-of_z}
use Rattle.location_terms.specs.Bound.{v_at}
use Rattle.location_terms.specs.declared.limits.TheConstants.{MAX_VALUE}
use Rattle.lane_order.specs.declared.order.PlacedLane.{PlacedLane}
use Rattle.dual_ascent.specs.Ascent.{lesser}
use Rattle.dual_ascent.specs.Steps.{IsOutlook, IsOffer, IsReached}
use Rattle.dual_ascent.specs.declared.looking.Offer.TheVariants.{UpTo}
use Rattle.dual_ascent.specs.declared.looking.Outlook.{Outlook}
use Rattle.dual_value.proofs.Payments.{value_small}
use Rattle.dual_ascent.proofs.Sized.{scaled_level, scaled_size, value_bits}
use Rattle.dual_ascent.proofs.Offers.{offer_kept}
use Rattle.dual_ascent.proofs.Walked.{IsPassed}
use Rattle.dual_ascent.proofs.Looked.{IsLeastOver, blocked_by_spent, barred_next, offer_next, cut_at, at_end}
use Rattle.dual_ascent.proofs.looking.look.Goals as goal
use Rattle.dual_ascent.proofs.looking.look.Goals.{in-Barred, in-UpTo}

pub scaled-requires : goal.scaled-requires
scaled-requires c = c.lanes_of-lanes.ensures.walk.small c.loop-lane.lane-index (record { cost = 0; site = 0 }) c.loop-lane-test.true

pub is_within-requires-clause-level : goal.is_within-requires-clause-level
is_within-requires-clause-level c =
    let walk = c.lanes_of-lanes.ensures.walk in
    let e : PlacedLane = record { cost = 0; site = 0 } in
    scaled_size c.scaled.result c.q-q.result (get_or c.lanes_of-lanes.result.now c.loop-lane.lane-index e).cost c.scaled.ensures (omega (arith, c.q-q.ensures, c.requires.fit.in_limits.scale)) (walk.small c.loop-lane.lane-index e c.loop-lane-test.true)

pub is_within-requires-clause-value : goal.is_within-requires-clause-value
is_within-requires-clause-value c =
    let bits = value_bits c.args.boxed.now.instance c.args.boxed.now.path c.args.duals.now c.requires.valid c.requires.fit c.args.cust c.requires.customer c.v-value.result c.v-value.ensures in
    subst (λ z. unsigned_abs z ≤ MAX_VALUE) (sym bits) (value_small c.args.boxed.now.instance c.args.boxed.now.path c.args.duals.now c.requires.valid c.requires.fit c.args.cust c.requires.customer)

pub returns-then-is_within : goal.returns-then-is_within
returns-then-is_within c =
    let I = c.args.boxed.now.instance in
    let path = c.args.boxed.now.path in
    let d = c.args.duals.now in
    let j = c.args.cust in
    let lanes = c.lanes_of-lanes.result.now in
    let k = c.loop-lane.lane-index in
    let walk = c.lanes_of-lanes.ensures.walk in
    let e : PlacedLane = record { cost = 0; site = 0 } in
    let level : to_z w128 (of_z w128 c.scaled.result) ≡ pos (d.q * (get_or lanes k e).cost) = scaled_level d c.scaled.result c.q-q.result (get_or lanes k e).cost c.scaled.ensures c.q-q.ensures c.requires.fit.in_limits.scale (walk.small k e c.loop-lane-test.true) in
    let value = value_bits I path d c.requires.valid c.requires.fit j c.requires.customer c.v-value.result c.v-value.ensures in
    let Far : ℤ → ℤ → Type 0 = λ v l. MatchOption c.loop-lane.least ⊥ (λ rise. (v +ℤ rise) ≤ℤ l) in
    let far = c.is_within.ensures.0 c.if-is_within.true in
    let far_here : Far (v_at d j) (pos (d.q * (get_or lanes k e).cost)) = subst (λ v. Far v (pos (d.q * (get_or lanes k e).cost))) value (subst (λ l. Far (to_z w128 (of_z w128 c.v-value.result)) l) level far) in
    subst (λ (o : Outlook). IsOutlook I path d j o) (sym c.shown.ensures) (cut_at I path d j lanes walk c.loop-lane.least k e c.loop-lane-test.true c.loop-lane.invariant far_here)

pub offered-requires-clause-lane : goal.offered-requires-clause-lane
offered-requires-clause-lane c = c.lanes_of-lanes.ensures.walk.is_lane c.loop-lane.lane-index (record { cost = 0; site = 0 }) c.loop-lane-test.true

pub returns-in-Blocks : goal.returns-in-Blocks
returns-in-Blocks c =
    let I = c.args.boxed.now.instance in
    let path = c.args.boxed.now.path in
    let d = c.args.duals.now in
    let j = c.args.cust in
    let walk = c.lanes_of-lanes.ensures.walk in
    let e : PlacedLane = record { cost = 0; site = 0 } in
    let k = c.loop-lane.lane-index in
    let i = (get_or c.lanes_of-lanes.result.now k e).site in
    let offer = c.in-Blocks.ensures in
    let reached : IsReached I path d j i = record { within = walk.within k e c.loop-lane-test.true; allowed = offer.0; under = offer.1 } in
    (blocked_by_spent I path d j i reached offer.2, reached)

pub loop-lane-preserved : goal.loop-lane-preserved
loop-lane-preserved c =
    let I = c.args.boxed.now.instance in
    let path = c.args.boxed.now.path in
    let d = c.args.duals.now in
    let j = c.args.cust in
    let lanes = c.lanes_of-lanes.result.now in
    let k = c.loop-lane.lane-index in
    let walk = c.lanes_of-lanes.ensures.walk in
    let e : PlacedLane = record { cost = 0; site = 0 } in
    let After : Option ℤ → Type 0 = IsLeastOver I path d j (IsPassed lanes (k + 1)) in
    elim c.match-offered.branch [
      | in-Barred w ↦ subst After (sym w.least-is) (barred_next I path d j lanes walk c.loop-lane.least k e c.loop-lane.invariant w.in-Barred.ensures)
      | in-UpTo w ↦
          let i = (get_or lanes k e).site in
          let offer : IsOffer I path d j i (UpTo w.in-UpTo.rise) = w.in-UpTo.ensures in
          let rise_kept = offer_kept I path d c.requires.valid c.requires.fit i (walk.within k e c.loop-lane-test.true) j c.requires.customer w.in-UpTo.rise offer in
          let lesser_kept = to_z-of_z w128 w.lesser.result (record { sfits = w.lesser.type_inv }) in
          let is : Some w.lesser.result ≡ lesser c.loop-lane.least (Some w.in-UpTo.rise) = w.lesser.ensures ∙ ap (λ (x : ℤ). lesser c.loop-lane.least (Some x)) rise_kept in
          subst After (sym (w.least-is ∙ ap (λ (x : ℤ). Some x) lesser_kept)) (offer_next I path d j lanes walk k e c.loop-lane-test.true w.in-UpTo.rise offer c.loop-lane.least w.lesser.result is c.loop-lane.invariant)
    ]

pub returns : goal.returns
returns c =
    let seen = at_end c.args.boxed.now.instance c.args.boxed.now.path c.args.duals.now c.args.cust c.lanes_of-lanes.result.now c.lanes_of-lanes.ensures.walk c.loop-lane.least c.loop-lane.lane-index (omega arith) c.loop-lane.invariant in
    subst (λ (o : Outlook). IsOutlook c.args.boxed.now.instance c.args.boxed.now.path c.args.duals.now c.args.cust o) (sym c.shown-2.ensures) seen

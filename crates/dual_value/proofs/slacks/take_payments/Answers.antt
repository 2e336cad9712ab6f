use Rattle.std.proofs.Common.{◌≡◌, ◌<◌, ◌≤◌, ◌+◌, ◌*◌, sym, ap, ◌∙◌, arith, Some, length, pos, slice_index_or, ◌≤ℤ◌}
use Rattle.std.specs.Prelude.{is_some, unwrap_or}
use Rattle.std.specs.Int.RustNames.{unsigned_abs}
use mir.Syntax.{w128}
use mir.Val.{to_z, of_z}
use Rattle.location_terms.specs.Instance.{Instance, site_at, customer_at, lane}
use Rattle.location_terms.specs.Bound.{Duals, level_at, paid_at, u_at, v_at}
use Rattle.location_terms.specs.declared.limits.TheConstants.{MAX_AMOUNT, MAX_SCALE, MAX_MULTIPLIER, MAX_VALUE}
use Rattle.lane_order.specs.declared.order.PlacedLane.{PlacedLane}
use Rattle.lane_order.proofs.Walks.{placed_is_lane, site_within}
use Rattle.lane_order.proofs.Spread.{spread_set}
use Rattle.dual_value.specs.declared.bounds.TheConstants.{MAX_SLACK}
use Rattle.dual_value.proofs.Payments.{value_small, scaled_small, level_small}
use Rattle.dual_value.proofs.Sizes.{kept, size_pos, order_kept, difference_fits, difference_kept_to}
use Rattle.dual_value.proofs.Walked.{cost_small, next_small, left_at_end, left_at_stop}
use Rattle.dual_value.proofs.slacks.take_payments.Goals as goal

abbrev no_lane : PlacedLane
no_lane = record { cost = 0; site = 0 }

pub times-requires : goal.times-requires
times-requires c =
    cost_small c.args.boxed.now.instance c.args.boxed.now.path c.args.duals.now c.requires.valid c.requires.fit c.args.order.now c.requires.order c.args.cust c.requires.customer c.lanes-lane-items.result.now c.lanes-lane-items.ensures.exact c.lanes-lane-items.ensures.known
    c.loop-lane.lane-index no_lane c.loop-lane-test.true

pub returns-then-value-times : goal.returns-then-value-times
returns-then-value-times c =
    let I : Instance = c.args.boxed.now.instance in
    let d : Duals = c.args.duals.now in
    let j = c.args.cust in
    let l : PlacedLane = slice_index_or c.lanes-lane-items.result.now c.loop-lane.lane-index no_lane in
    let small : l.cost ≤ MAX_AMOUNT = cost_small c.args.boxed.now.instance c.args.boxed.now.path c.args.duals.now c.requires.valid c.requires.fit c.args.order.now c.requires.order c.args.cust c.requires.customer c.lanes-lane-items.result.now c.lanes-lane-items.ensures.exact c.lanes-lane-items.ensures.known c.loop-lane.lane-index no_lane c.loop-lane-test.true in
    let scaled : c.times.result ≡ pos (d.q * l.cost) = c.times.ensures ∙ ap (λ q. pos (q * l.cost)) (c.from.ensures ∙ c.q-q.ensures) in
    let size : unsigned_abs c.v-value.result ≤ MAX_VALUE = rw c.v-value.ensures (value_small I c.args.boxed.now.path d c.requires.valid c.requires.fit j c.requires.customer) in
    let found : c.v-value.result ≤ℤ c.times.result = order_kept c.v-value.result c.times.result MAX_VALUE (MAX_SCALE * MAX_AMOUNT) size (size_pos c.times.result (d.q * l.cost) (MAX_SCALE * MAX_AMOUNT) scaled (scaled_small I c.args.boxed.now.path d c.requires.valid c.requires.fit l.cost small)) (omega arith) c.if-value-times.true in
    let dear : v_at d j ≤ℤ pos (d.q * l.cost) = rw (c.v-value.ensures, scaled) at found in
    left_at_stop c.args.boxed.now.instance c.args.boxed.now.path c.args.duals.now c.requires.valid c.requires.fit c.args.order.now c.requires.order c.args.cust c.requires.customer c.lanes-lane-items.result.now c.lanes-lane-items.ensures.exact c.lanes-lane-items.ensures.known
    c.args.slacks.now c.requires.slacks c.lanes-lane-items.ensures.rising c.loop-lane.lane-index no_lane c.loop-lane.slacks c.loop-lane-test.true dear c.loop-lane.invariant

pub level-level-requires-clause-cost : goal.level-level-requires-clause-cost
level-level-requires-clause-cost c =
    cost_small c.args.boxed.now.instance c.args.boxed.now.path c.args.duals.now c.requires.valid c.requires.fit c.args.order.now c.requires.order c.args.cust c.requires.customer c.lanes-lane-items.result.now c.lanes-lane-items.ensures.exact c.lanes-lane-items.ensures.known
    c.loop-lane.lane-index no_lane c.loop-lane-test.true

pub paid_over-requires-clause-lane : goal.paid_over-requires-clause-lane
paid_over-requires-clause-lane c =
    ap is_some (placed_is_lane c.args.boxed.now.instance c.args.order.now c.requires.order c.args.cust c.requires.customer c.lanes-lane-items.result.now c.lanes-lane-items.ensures.exact c.lanes-lane-items.ensures.known
    c.loop-lane.lane-index no_lane c.loop-lane-test.true)

pub overflow_sub-slacks : goal.overflow_sub-slacks
overflow_sub-slacks c =
    let l : PlacedLane = slice_index_or c.lanes-lane-items.result.now c.loop-lane.lane-index no_lane in
    let size = next_small c.args.boxed.now.instance c.args.boxed.now.path c.args.duals.now c.requires.valid c.requires.fit c.args.order.now c.requires.order c.args.cust c.requires.customer c.lanes-lane-items.result.now c.lanes-lane-items.ensures.exact c.lanes-lane-items.ensures.known
    c.args.slacks.now c.requires.slacks c.loop-lane.lane-index no_lane c.loop-lane.slacks c.loop-lane-test.true c.loop-lane.invariant in
    difference_fits (slice_index_or c.loop-lane.slacks l.site (pos 0)) c.paid_over.result MAX_SLACK MAX_VALUE (omega (arith, size)) c.paid_over.ensures.small (omega arith)

pub loop-lane-preserved : goal.loop-lane-preserved
loop-lane-preserved c =
    let I : Instance = c.args.boxed.now.instance in
    let d : Duals = c.args.duals.now in
    let j = c.args.cust in
    let k = c.loop-lane.lane-index in
    let lanes = c.lanes-lane-items.result.now in
    let old = c.loop-lane.slacks in
    let l : PlacedLane = slice_index_or lanes k no_lane in
    let inside : l.site < length I.sites = site_within I c.args.order.now c.requires.order j c.requires.customer lanes c.lanes-lane-items.ensures.exact c.lanes-lane-items.ensures.known k no_lane c.loop-lane-test.true in
    let is : lane I (site_at I l.site).id (customer_at I j).id ≡ Some l.cost = placed_is_lane I c.args.order.now c.requires.order j c.requires.customer lanes c.lanes-lane-items.ensures.exact c.lanes-lane-items.ensures.known k no_lane c.loop-lane-test.true in
    let demand : c.demand-demand.result ≡ (customer_at I j).demand = c.demand-demand.ensures.exact ∙ ap (λ (J : Instance). (customer_at J j).demand) c.instance.ensures in
    let level : c.level-level.result ≡ pos (d.q * l.cost + u_at d l.site * (customer_at I j).demand) = c.level-level.ensures ∙ (λ i. pos (c.q-q.ensures i * l.cost + c.u.ensures i * demand i)) in
    let level_is : level_at I d l.site j ≡ pos (d.q * l.cost + u_at d l.site * (customer_at I j).demand) = ap (λ o. pos (d.q * unwrap_or o 0 + u_at d l.site * (customer_at I j).demand)) is in
    let few = level_small I c.args.boxed.now.path d c.requires.valid c.requires.fit l.site j l.cost inside c.requires.customer
    (cost_small c.args.boxed.now.instance c.args.boxed.now.path c.args.duals.now c.requires.valid c.requires.fit c.args.order.now c.requires.order c.args.cust c.requires.customer c.lanes-lane-items.result.now c.lanes-lane-items.ensures.exact c.lanes-lane-items.ensures.known k no_lane c.loop-lane-test.true) in
    let level_bits : to_z w128 (of_z w128 c.level-level.result) ≡ level_at I d l.site j =
    kept c.level-level.result (MAX_SCALE * MAX_AMOUNT + MAX_MULTIPLIER * MAX_AMOUNT) (size_pos c.level-level.result (d.q * l.cost + u_at d l.site * (customer_at I j).demand) (MAX_SCALE * MAX_AMOUNT + MAX_MULTIPLIER * MAX_AMOUNT) level few) (omega arith) ∙ level ∙ sym level_is in
    let value_bits : to_z w128 (of_z w128 c.v-value.result) ≡ v_at d j = rw c.v-value.ensures (kept (v_at d j) MAX_VALUE (value_small I c.args.boxed.now.path d c.requires.valid c.requires.fit j c.requires.customer) (omega arith)) in
    let paid : c.paid_over.result ≡ paid_at I c.args.boxed.now.path d l.site j = rw (value_bits, level_bits) at c.paid_over.ensures.exact in
    let size = next_small c.args.boxed.now.instance c.args.boxed.now.path c.args.duals.now c.requires.valid c.requires.fit c.args.order.now c.requires.order c.args.cust c.requires.customer c.lanes-lane-items.result.now c.lanes-lane-items.ensures.exact c.lanes-lane-items.ensures.known
    c.args.slacks.now c.requires.slacks k no_lane old c.loop-lane-test.true c.loop-lane.invariant in
    spread_set I c.args.order.now c.requires.order j c.requires.customer lanes c.lanes-lane-items.ensures.exact c.lanes-lane-items.ensures.known (λ i. paid_at I c.args.boxed.now.path d i j) c.args.slacks.now old k no_lane c.loop-lane-test.true c.loop-lane.invariant _
    (omega (arith, inside, c.loop-lane.invariant.count, c.requires.slacks.count))
    (difference_kept_to (slice_index_or old l.site (pos 0)) c.paid_over.result (paid_at I c.args.boxed.now.path d l.site j) MAX_SLACK MAX_VALUE (omega (arith, size)) c.paid_over.ensures.small (omega arith) paid)

pub returns : goal.returns
returns c =
    left_at_end c.args.boxed.now.instance c.args.boxed.now.path c.args.duals.now c.requires.valid c.requires.fit c.args.order.now c.requires.order c.args.cust c.requires.customer c.lanes-lane-items.result.now c.lanes-lane-items.ensures.exact c.lanes-lane-items.ensures.known
    c.args.slacks.now c.requires.slacks c.loop-lane.lane-index c.loop-lane.slacks c.loop-lane.auto.lane-index-end c.loop-lane-test.false c.loop-lane.invariant

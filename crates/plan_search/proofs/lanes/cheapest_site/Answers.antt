use Rattle.std.proofs.Common.{◌≡◌, get_or, sym, ap, inl, inr, ◌∙◌, arith}
use Rattle.std.specs.Prelude.{is_some}
use Rattle.std.proofs.lemmas.Bool.{and_from, and_left, and_right}
use Rattle.location_terms.specs.Instance.{customer_at}
use Rattle.location_terms.specs.Box.{holds_demand}
use Rattle.lane_order.proofs.Walks.{placed_is_lane}
use Rattle.plan_search.specs.Packing.{room_at}
use Rattle.plan_search.proofs.FirstLane.{none_left, first_is_cheapest, passed_to}
use Rattle.plan_search.proofs.lanes.cheapest_site.Goals as goal
use Rattle.plan_search.proofs.lanes.cheapest_site.Goals.{else-flags-site-via-then-flags-site+then-holds+else-admits, else-flags-site-via-then-flags-site+else-holds, else-flags-site-via-else-flags-site}

pub loop-lane-init : goal.loop-lane-init
loop-lane-init c = λ k d below. absurd (omega (arith, below))

pub admits-requires-clause-lane : goal.admits-requires-clause-lane
admits-requires-clause-lane c =
    ap is_some (placed_is_lane c.args.boxed.now.instance c.args.order.now c.requires.order c.args.cust c.requires.customer c.lanes-lane-items.result.now c.lanes-lane-items.ensures.exact c.lanes-lane-items.ensures.known c.loop-lane.lane-index _ c.loop-lane-test.true)

pub returns-then-admits : goal.returns-then-admits
returns-then-admits c =
    let I = c.args.boxed.now.instance in
    let j = c.args.cust in
    let demand : c.demand-demand.result ≡ (customer_at I j).demand = c.demand-demand.ensures.exact ∙ ap (λ J. (customer_at J j).demand) c.instance.ensures in
    let holds : c.holds.result ≡ holds_demand (room_at c.args.rooms.now (get_or c.lanes-lane-items.result.now c.loop-lane.lane-index (record { cost = 0; site = 0 })).site) (customer_at I j).demand =
    c.holds.ensures ∙ ap (λ n. holds_demand (room_at c.args.rooms.now (get_or c.lanes-lane-items.result.now c.loop-lane.lane-index (record { cost = 0; site = 0 })).site) n) demand in
    first_is_cheapest I c.requires.valid c.args.order.now c.requires.order c.args.boxed.now.path c.args.flags.now c.requires.long c.args.rooms.now j c.requires.customer
    c.lanes-lane-items.result.now c.lanes-lane-items.ensures.exact c.lanes-lane-items.ensures.known c.loop-lane.lane-index _ c.loop-lane-test.true (λ k below. c.loop-lane.invariant k _ below)
    c.if-flags-site.true (and_from _ _ (sym c.admits.ensures ∙ c.if-admits.true) (sym holds ∙ c.if-holds.true))

pub loop-lane-preserved : goal.loop-lane-preserved
loop-lane-preserved c =
    let I = c.args.boxed.now.instance in
    let j = c.args.cust in
    let demand : c.demand-demand.result ≡ (customer_at I j).demand = c.demand-demand.ensures.exact ∙ ap (λ J. (customer_at J j).demand) c.instance.ensures in
    passed_to I c.args.boxed.now.path c.args.flags.now c.args.rooms.now j c.lanes-lane-items.result.now c.loop-lane.lane-index (record { cost = 0; site = 0 }) c.loop-lane-test.true c.loop-lane.invariant
    (elim c.else-flags-site.branch [
      | else-flags-site-via-then-flags-site+then-holds+else-admits w ↦ inr (and_left _ _ (sym w.admits.ensures ∙ w.if-admits.false))
      | else-flags-site-via-then-flags-site+else-holds w ↦
          inr (and_right _ _ (ap (λ n. holds_demand (room_at c.args.rooms.now (get_or c.lanes-lane-items.result.now c.loop-lane.lane-index (record { cost = 0; site = 0 })).site) n) (sym demand) ∙ sym w.holds.ensures ∙ w.if-holds.false))
      | else-flags-site-via-else-flags-site w ↦ inl w.if-flags-site.false
    ])

pub returns : goal.returns
returns c =
    none_left c.args.boxed.now.instance c.requires.valid c.args.order.now c.requires.order c.args.boxed.now.path c.args.flags.now c.requires.long c.args.rooms.now c.args.cust c.requires.customer
    c.lanes-lane-items.result.now c.lanes-lane-items.ensures.exact c.lanes-lane-items.ensures.known (λ k d b. c.loop-lane.invariant k d (omega (arith, b, c.loop-lane-test.false)))

use Rattle.std.proofs.Common.{ℕ, List, [], Option, length, slice_index, slice_index_or, sym, ap, subst, arith}
use Rattle.location_terms.proofs.Places.{length-site_ids}
use Rattle.lane_order.specs.Order.{Order}
use Rattle.lane_order.specs.Changed.{IsLaneTo}
use Rattle.lane_order.proofs.Changed.{lane_of_order}
use Rattle.lane_order.proofs.tests.replace.Goals as goal

pub set_lane-requires-clause-customer : goal.set_lane-requires-clause-customer
set_lane-requires-clause-customer c = omega (arith, c.requires.customer, c.requires.order.same_count, ap (λ (ls : List (List (ℕ × ℕ))). length ls) c.in_ok-reserve.ensures.lanes)

pub set_lane-requires-clause-site : goal.set_lane-requires-clause-site
set_lane-requires-clause-site c =
    omega (arith, c.requires.site, length-site_ids c.args.inst.now, ap (λ (xs : List ℕ). length xs) c.requires.order.same_sites, ap (λ (xs : List ℕ). length xs) c.in_ok-reserve.ensures.sites)

pub set_lane-requires-clause-old : goal.set_lane-requires-clause-old
set_lane-requires-clause-old c =
    let I = c.args.inst.now in
    let order : Order = c.args.order.now in
    let site = c.args.site in
    let cust = c.args.cust in
    let before = lane_of_order I order c.requires.order site cust c.requires.site c.requires.customer in
    subst (λ (p : List ℕ × Option ℕ × List (List (ℕ × ℕ))). IsLaneTo (slice_index p.0 site) p.1 (slice_index_or p.2 cust []))
    (λ k. (sym c.in_ok-reserve.ensures.sites k, sym c.lane-old.ensures.exact k, sym c.in_ok-reserve.ensures.lanes k)) before

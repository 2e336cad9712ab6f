use Rattle.std.proofs.Common.{◌≡◌, ◌+◌, ◌-◌, ◌<◌, length, slice_index, sym, ap, subst, arith}
use Rattle.lane_order.specs.declared.order.LaneOrder.TheInside.{Inside}
use Rattle.lane_order.specs.Order.{Order}
use Rattle.lane_order.specs.Listed.{Listed}
use Rattle.lane_order.specs.Changed.{IsLaneTo}
use Rattle.lane_order.proofs.Lists.{list-inside, sites-seen, rising-seen, list-seen, known-seen, fresh_less}
use Rattle.lane_order.proofs.Changed.{by_place, lists_after, order_after}
use Rattle.lane_order.proofs.order.LaneOrder.set_lane.Goals as goal

pub set-requires-clause-old : goal.set-requires-clause-old
set-requires-clause-old c =
    let a : Inside = c.self.inside in
    let order : Order = c.args.self.now in
    let l : Listed = c.index_mut.result.now in
    by_place order.sites (rising-seen a c.self.invariant order c.self.view_is c.args.cust l c.requires.customer c.index_mut.ensures.value) l.lanes
    (known-seen a c.self.invariant order c.self.view_is c.args.cust l c.requires.customer c.index_mut.ensures.value) c.args.site c.requires.site c.args.old
    (subst (IsLaneTo (slice_index order.sites c.args.site) c.args.old) (sym (list-seen a c.self.invariant order c.self.view_is c.args.cust l c.requires.customer c.index_mut.ensures.value)) c.requires.old)

pub invariant_of-self : goal.invariant_of-self
invariant_of-self c =
    let a : Inside = c.self.inside in
    let order : Order = c.args.self.now in
    let l : Listed = c.index_mut.result.now in
    let inside : c.args.cust < length a.lists.items = list-inside a c.self.invariant order c.self.view_is c.args.cust l c.requires.customer c.index_mut.ensures.value in
    let same : length a.site_ids.items ≡ length order.sites = ap length (sites-seen a c.self.invariant order c.self.view_is c.args.cust l c.requires.customer c.index_mut.ensures.value) in
    let within : c.args.site < length a.site_ids.items = omega (arith, same, c.requires.site) in
    let spare : a.spare ≡ order.spare = ap (λ (o : Order). o.spare) c.self.view_is in
    let less : (a.spare - 1) + 1 ≡ a.spare = omega (arith, spare, c.requires.room) in
    record {
      rising = c.self.invariant.rising;
      few = c.self.invariant.few;
      fresh = fresh_less (length a.site_ids.items + a.spare) (length a.site_ids.items + (a.spare - 1)) a.fresh.items (omega (arith, less)) c.self.invariant.fresh;
      site_room = omega (arith, less, c.self.invariant.site_room);
      list_room = omega (arith, less, c.self.invariant.list_room);
      fresh_room = omega (arith, less, c.self.invariant.fresh_room);
      lists = lists_after a c.self.invariant c.args.site c.args.cust l c.set.new.self within inside c.index_mut.ensures.value c.set.ensures.others c.set.ensures.ascending (a.spare - 1) less c.set.ensures.spare;
    }

pub returns-clause-order : goal.returns-clause-order
returns-clause-order c = λ I J valid of differ.
    let a : Inside = c.self.inside in
    let order : Order = c.args.self.now in
    let l : Listed = c.index_mut.result.now in
    let inside : c.args.cust < length a.lists.items = list-inside a c.self.invariant order c.self.view_is c.args.cust l c.requires.customer c.index_mut.ensures.value in
    let same : length a.site_ids.items ≡ length order.sites = ap length (sites-seen a c.self.invariant order c.self.view_is c.args.cust l c.requires.customer c.index_mut.ensures.value) in
    let within : c.args.site < length a.site_ids.items = omega (arith, same, c.requires.site) in
    order_after a c.self.invariant c.args.site c.args.cust l c.set.new.self within inside c.index_mut.ensures.value c.set.ensures.others c.set.ensures.ascending c.args.new c.set.ensures.lane I J valid order c.self.view_is of differ (a.spare - 1)

use Rattle.std.proofs.Common.{◌≡◌, ◌+◌, ◌-◌, ◌≤◌, ℕ, List, map, length, All, ap, sym, subst, ◌∙◌, arith}
use Rattle.std.proofs.lemmas.List.{length-map}
use Rattle.lane_order.specs.declared.order.LaneOrder.TheInside.{Inside}
use Rattle.location_terms.specs.Instance.{site_ids}
use Rattle.lane_order.specs.Order.{Order, AreLanesTo, IsOrderOf}
use Rattle.lane_order.specs.Placed.{named}
use Rattle.lane_order.specs.Listed.{Listed, IsList}
use Rattle.lane_order.proofs.Lists.{fresh_less}
use Rattle.lane_order.proofs.Customers.{order_with_customer}
use Rattle.lane_order.proofs.StoredCustomers.{all_insert, last_fresh, left_fresh, filled_lanes}
use Rattle.lane_order.proofs.order.LaneOrder.insert_cust.Goals as goal

pub invariant_of-self : goal.invariant_of-self
invariant_of-self c =
    let a : Inside = c.self.inside in
    let n : ℕ = length a.site_ids.items in
    let less : (a.spare - 1) + 1 ≡ a.spare = omega (arith, c.requires.room, ap (λ (o : Order). o.spare) c.self.view_is) in
    let long : length c.args.lanes.now ≡ n = c.requires.lanes ∙ sym (ap (λ (o : Order). length o.sites) c.self.view_is) in
    let got = last_fresh (n + a.spare) a.fresh.items c.take_fresh-list.new.fresh.items c.take_fresh-list.result c.take_fresh-list.ensures.taken c.self.invariant.fresh in
    let f = c.fill.ensures in
    let one : IsList n (a.spare - 1) c.fill.new.self = record { known = λ k d b. omega (arith, long, f.known k d b); ascending = f.ascending; room = omega (arith, long, less, f.spare, got.room) } in
    let inside : c.args.place ≤ length a.lists.items = omega (arith, c.requires.place, length-map a.lists.items (λ (l : Listed). map (named a.site_ids.items) l.lanes), ap (λ (o : Order). length o.lanes) c.self.view_is) in
    record {
      rising = c.self.invariant.rising;
      few = c.self.invariant.few;
      lists = subst (All (IsList n (a.spare - 1))) (sym c.put_list.ensures.lists) (all_insert (IsList n (a.spare - 1)) a.lists.items c.args.place c.fill.new.self inside (λ k d b. let was = c.self.invariant.lists k d b in record { known = was.known; ascending = was.ascending; room = omega (arith, less, was.room) }) one);
      fresh = fresh_less (n + a.spare) (n + (a.spare - 1)) c.take_fresh-list.new.fresh.items (omega (arith, less)) (left_fresh (n + a.spare) a.fresh.items c.take_fresh-list.new.fresh.items c.take_fresh-list.result c.take_fresh-list.ensures.taken c.self.invariant.fresh);
      site_room = omega (arith, less, c.self.invariant.site_room);
      list_room = omega (arith, less, c.self.invariant.list_room, c.put_list.ensures.longer, c.put_list.ensures.room);
      fresh_room = omega (arith, less, c.self.invariant.fresh_room, c.take_fresh-list.ensures.shorter);
    }

pub returns-clause-order : goal.returns-clause-order
returns-clause-order c = λ I J k _ valid of more.
    let a : Inside = c.self.inside in
    let before : IsOrderOf (record { sites = a.site_ids.items; lanes = map (λ (l : Listed). map (named a.site_ids.items) l.lanes) a.lists.items; spare = a.spare }) I = subst (λ (o : Order). IsOrderOf o I) (sym c.self.view_is) of in
    let was : a.site_ids.items ≡ site_ids J = before.same_sites ∙ sym more.sites in
    let long : length c.args.lanes.now ≡ length (site_ids I) = c.requires.lanes ∙ ap (λ (xs : List ℕ). length xs) of.same_sites in
    let new : AreLanesTo J k (map (named a.site_ids.items) c.fill.new.self.lanes) = subst (λ (ns : List ℕ). AreLanesTo J k (map (named ns) c.fill.new.self.lanes)) (sym was) (filled_lanes I J c.args.place k c.args.lanes.now c.take_fresh-list.result c.fill.new.self valid more long c.fill.ensures) in
    subst (λ (ls : List Listed). IsOrderOf (record { sites = a.site_ids.items; lanes = map (λ (l : Listed). map (named a.site_ids.items) l.lanes) ls; spare = a.spare - 1 }) J) (sym c.put_list.ensures.lists)
    (order_with_customer I J c.args.place k c.args.lanes.now more valid a.site_ids.items a.lists.items a.spare (a.spare - 1) c.fill.new.self before new)

use Rattle.std.proofs.Common.{◌≡◌, ◌+◌, ◌-◌, ◌<◌, ◌≤◌, ℕ, ◌++◌, List, None, insert, take, drop, get_or, slice_index_or, length, refl, ap, sym, subst, ◌∙◌, arith}
use Rattle.lane_order.specs.declared.order.LaneOrder.TheInside.{Inside}
use Rattle.std.specs.List.Sorted.{IsStrictlyIncreasing}
use Rattle.std.specs.Vec.{with_items}
use Rattle.lane_order.specs.Order.{Order}
use Rattle.lane_order.specs.Listed.{Listed, HasLaneMore}
use Rattle.lane_order.proofs.Lists.{written_whole}
use Rattle.lane_order.proofs.StoredSites.{IsStored-with, order-with}
use Rattle.lane_order.proofs.order.LaneOrder.insert_site.Goals as goal

pub invariant_of-self : goal.invariant_of-self
invariant_of-self c =
    let a : Inside = c.self.inside in
    let new : List Listed = c.insert_site.new.lists in
    let place = c.args.place in
    let count : length new ≡ length a.lists.items = c.insert_site.ensures.count ∙ ap length c.deref_mut.ensures.value in
    let whole : take a.lists.len (new ++ drop (length new) a.lists.items) ≡ new = written_whole a.lists.items new a.lists.len a.lists.ok.0 count in
    let same : a.site_ids.items ≡ c.args.self.now.sites = ap (λ (o : Order). o.sites) c.self.view_is in
    let there : place ≤ length a.site_ids.items = omega (arith, c.requires.place, ap (λ (o : Order). length o.sites) c.self.view_is) in
    let change = subst (λ (xs : List Listed). (j : ℕ) (d : Listed) → j < length xs → HasLaneMore place (slice_index_or c.args.lanes.now j None) (get_or xs j d) (get_or new j d)) c.deref_mut.ensures.value c.insert_site.ensures.each in
    let b : Inside = record { site_ids = c.put_id.new.ids; lists = with_items a.lists new; fresh = a.fresh; spare = a.spare - 1 } in
    let less : (a.spare - 1) + 1 ≡ a.spare = omega (arith, c.requires.room, ap (λ (o : Order). o.spare) c.self.view_is) in
    let rising = subst (λ (ns : List ℕ). IsStrictlyIncreasing (insert ns place c.args.id)) (sym same) c.requires.rising in
    IsStored-with a c.self.invariant place new count c.args.id c.args.lanes.now there change b c.put_id.ensures.ids rising (omega (arith, c.requires.few, ap (λ (o : Order). length o.sites) c.self.view_is)) whole refl less
    (omega (arith, less, c.self.invariant.site_room, c.put_id.ensures.longer, c.put_id.ensures.room)) (omega (arith, less, c.self.invariant.list_room)) (omega (arith, less, c.self.invariant.fresh_room))

pub returns-clause-order : goal.returns-clause-order
returns-clause-order c = λ I J valid valid' of more.
    let a : Inside = c.self.inside in
    let new : List Listed = c.insert_site.new.lists in
    let place = c.args.place in
    let count : length new ≡ length a.lists.items = c.insert_site.ensures.count ∙ ap length c.deref_mut.ensures.value in
    let whole : take a.lists.len (new ++ drop (length new) a.lists.items) ≡ new = written_whole a.lists.items new a.lists.len a.lists.ok.0 count in
    let there : place ≤ length a.site_ids.items = omega (arith, c.requires.place, ap (λ (o : Order). length o.sites) c.self.view_is) in
    let change = subst (λ (xs : List Listed). (j : ℕ) (d : Listed) → j < length xs → HasLaneMore place (slice_index_or c.args.lanes.now j None) (get_or xs j d) (get_or new j d)) c.deref_mut.ensures.value c.insert_site.ensures.each in
    order-with a c.self.invariant place new count c.args.id c.args.lanes.now there change I J c.args.self.now (a.spare - 1) c.put_id.new.ids.items (take a.lists.len (new ++ drop (length new) a.lists.items)) valid valid' c.self.view_is of
    more c.put_id.ensures.ids whole

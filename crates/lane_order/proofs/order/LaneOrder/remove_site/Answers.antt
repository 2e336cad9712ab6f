use Rattle.std.proofs.Common.{◌≡◌, ◌<◌, ℕ, ◌++◌, List, take, drop, get_or, length, refl, ap, subst, ◌∙◌, arith}
use Rattle.lane_order.specs.declared.order.LaneOrder.TheInside.{Inside}
use Rattle.std.specs.Vec.{with_items}
use Rattle.lane_order.specs.Order.{Order}
use Rattle.lane_order.specs.Listed.{Listed, HasLaneLess}
use Rattle.lane_order.proofs.Lists.{written_whole}
use Rattle.lane_order.proofs.StoredSites.{IsStored-without, order-without}
use Rattle.lane_order.proofs.order.LaneOrder.remove_site.Goals as goal

pub invariant_of-self : goal.invariant_of-self
invariant_of-self c =
    let a : Inside = c.self.inside in
    let new : List Listed = c.remove_site.new.lists in
    let place = c.args.place in
    let count : length new ≡ length a.lists.items = c.remove_site.ensures.count ∙ ap length c.deref_mut.ensures.value in
    let whole : take a.lists.len (new ++ drop (length new) a.lists.items) ≡ new = written_whole a.lists.items new a.lists.len a.lists.ok.0 count in
    let there : place < length a.site_ids.items = omega (arith, c.requires, ap (λ (o : Order). length o.sites) c.self.view_is) in
    let change = subst (λ (xs : List Listed). (j : ℕ) (d : Listed) → j < length xs → HasLaneLess place (get_or xs j d) (get_or new j d)) c.deref_mut.ensures.value c.remove_site.ensures.each in
    let b : Inside = record { site_ids = c.remove.new.self; lists = with_items a.lists new; fresh = a.fresh; spare = a.spare } in
    IsStored-without a c.self.invariant place new count there change b c.remove.ensures.items whole refl refl (omega (arith, c.self.invariant.site_room, c.remove.ensures.len, c.remove.ensures.capacity)) c.self.invariant.list_room
    c.self.invariant.fresh_room

pub returns-clause-order : goal.returns-clause-order
returns-clause-order c = λ I J s lanes valid valid' of more.
    let a : Inside = c.self.inside in
    let new : List Listed = c.remove_site.new.lists in
    let place = c.args.place in
    let count : length new ≡ length a.lists.items = c.remove_site.ensures.count ∙ ap length c.deref_mut.ensures.value in
    let whole : take a.lists.len (new ++ drop (length new) a.lists.items) ≡ new = written_whole a.lists.items new a.lists.len a.lists.ok.0 count in
    let there : place < length a.site_ids.items = omega (arith, c.requires, ap (λ (o : Order). length o.sites) c.self.view_is) in
    let change = subst (λ (xs : List Listed). (j : ℕ) (d : Listed) → j < length xs → HasLaneLess place (get_or xs j d) (get_or new j d)) c.deref_mut.ensures.value c.remove_site.ensures.each in
    order-without a c.self.invariant place new count there change I J s lanes c.args.self.now a.spare c.remove.new.self.items (take a.lists.len (new ++ drop (length new) a.lists.items)) valid valid' c.self.view_is of more
    c.remove.ensures.items whole

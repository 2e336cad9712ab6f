-- A stored order to which a site has come, or from which one has gone.
use Rattle.std.proofs.Common.{◌≡◌, ℕ, ◌+◌, ◌-◌, ◌<◌, ◌≤◌, List, map, insert, remove, length, vec_len, vec_capacity, Option, None, All, get_or, slice_index_or, sym, ap, subst, ◌∙◌, arith}
use Rattle.std.proofs.lemmas.List.Edits.{length-insert, length-remove}
use Rattle.std.specs.List.Sorted.{IsStrictlyIncreasing}
use Rattle.location_terms.specs.declared.limits.TheConstants.{MAX_SITES}
use Rattle.location_terms.specs.Instance.{Instance, IsValid, site_ids}
use Rattle.location_terms.proofs.Places.{length-site_ids}
use Rattle.lane_order.specs.declared.order.LaneOrder.TheInside.{Inside}
use Rattle.lane_order.specs.Order.{Order, IsOrderOf}
use Rattle.lane_order.specs.Placed.{named}
use Rattle.lane_order.specs.Listed.{Listed, IsList, IsFresh, HasLaneMore, HasLaneLess}
use Rattle.lane_order.specs.Changed.{HasSiteMore}
use Rattle.lane_order.specs.Stored.{stored_order, IsStored}
use Rattle.lane_order.proofs.Lists.{fresh_less}
use Rattle.lane_order.proofs.Shifted.{known-more, known-less}
use Rattle.lane_order.proofs.Skipped.{remove-insert, IsStrictlyIncreasing-remove}
use Rattle.lane_order.proofs.Sites.{order_with_site, order_without_site}

-- lanes by the ids of the sites
abbrev seen : List ℕ → List Listed → List (List (ℕ × ℕ))
seen ids lists = map (λ (l : Listed). map (named ids) l.lanes) lists

abbrev order_of : List ℕ → List Listed → ℕ → Order
order_of ids lists spare = record { sites = ids; lanes = seen ids lists; spare = spare }

module _ (a : Inside) (stored : IsStored a) (place : ℕ) (new : List Listed) (count : length new ≡ length a.lists.items) where
  known_before : (j : ℕ) (d : Listed) → j < length a.lists.items → All (λ l. l.site < length a.site_ids.items) (get_or a.lists.items j d).lanes
  known_before j d b = (stored.lists j d b).known

  -- without the site
  module _ (there : place < length a.site_ids.items) (change : (j : ℕ) (d : Listed) → j < length a.lists.items → HasLaneLess place (get_or a.lists.items j d) (get_or new j d)) where
    shorter : length (remove a.site_ids.items place) + 1 ≡ length a.site_ids.items
    shorter = length-remove a.site_ids.items place there

    pub IsStored-without : (b : Inside) → b.site_ids.items ≡ remove a.site_ids.items place → b.lists.items ≡ new → b.fresh.items ≡ a.fresh.items → b.spare ≡ a.spare
        → b.spare ≤ vec_capacity b.site_ids - vec_len b.site_ids → b.spare ≤ vec_capacity b.lists - vec_len b.lists → b.spare ≤ vec_len b.fresh → IsStored b
    IsStored-without b ids are fresh spare site_room list_room fresh_room =
        let n : ℕ = length (remove a.site_ids.items place) in
        let same : length b.site_ids.items ≡ n = ap (λ (xs : List ℕ). length xs) ids in
        record {
          rising = subst IsStrictlyIncreasing (sym ids) (IsStrictlyIncreasing-remove a.site_ids.items place there stored.rising);
          few = omega (arith, same, shorter, stored.few);
          lists = subst (All (IsList (length b.site_ids.items) b.spare)) (sym are) (λ j d b'.
              let within : j < length a.lists.items = omega (arith, b', count) in
              let was = stored.lists j d within in
              let step = change j d within in
              let known : All (λ l. l.site < n) (get_or new j d).lanes = known-less place n (omega (arith, there, shorter)) (get_or new j d).lanes (get_or a.lists.items j d).lanes step.others (λ k e b''. omega (arith, shorter, was.known k e b'')) in
              record { known = λ k e b''. omega (arith, same, known k e b''); ascending = step.ascending; room = omega (arith, spare, was.room, step.spare) });
          fresh = subst (All (IsFresh (length b.site_ids.items + b.spare))) (sym fresh) (fresh_less (length a.site_ids.items + a.spare) (length b.site_ids.items + b.spare) a.fresh.items (omega (arith, same, shorter, spare)) stored.fresh);
          site_room = site_room;
          list_room = list_room;
          fresh_room = fresh_room;
        }

    pub order-without : (I J : Instance) (s : ℕ) (row : List (Option ℕ)) (order : Order) (spare : ℕ) (ids : List ℕ) (lists : List Listed) → IsValid I → IsValid J → stored_order a ≡ order → IsOrderOf order J → HasSiteMore I J place s row
        → ids ≡ remove a.site_ids.items place → lists ≡ new → IsOrderOf (order_of ids lists spare) I
    order-without I J s row order spare ids lists valid valid' view of more ids-are lists-are =
        let before : IsOrderOf (stored_order a) J = subst (λ (o : Order). IsOrderOf o J) (sym view) of in
        let was : a.site_ids.items ≡ site_ids J = before.same_sites in
        let inside : place ≤ length (site_ids I) = more-inside I J s row more in
        let is : ids ≡ site_ids I = ids-are ∙ (λ k. remove ((was ∙ more.sites) k) place) ∙ remove-insert (site_ids I) place s inside in
        let old = subst (λ (ns : List ℕ). IsOrderOf (order_of ns a.lists.items a.spare) J) was before in
        subst (λ (p : List ℕ × List Listed). IsOrderOf (order_of p.0 p.1 spare) I) (λ k. (sym is k, sym lists-are k))
        (order_without_site I J valid valid' place s row more a.lists.items new a.spare spare old count (subst (λ (ns : List ℕ). (j : ℕ) (d : Listed) → j < length a.lists.items → All (λ l. l.site < length ns) (get_or a.lists.items j d).lanes) was known_before) change)
      where
        more-inside : (I J : Instance) (s : ℕ) (row : List (Option ℕ)) → HasSiteMore I J place s row → place ≤ length (site_ids I)
        more-inside I J s row more = omega (arith, more.within, length-site_ids I)

  -- with the site
  module _ (id : ℕ) (row : List (Option ℕ)) (inside : place ≤ length a.site_ids.items) (change : (j : ℕ) (d : Listed) → j < length a.lists.items → HasLaneMore place (slice_index_or row j None) (get_or a.lists.items j d) (get_or new j d)) where
    longer : length (insert a.site_ids.items place id) ≡ length a.site_ids.items + 1
    longer = length-insert a.site_ids.items place id inside

    pub IsStored-with : (b : Inside) → b.site_ids.items ≡ insert a.site_ids.items place id → IsStrictlyIncreasing (insert a.site_ids.items place id) → length a.site_ids.items < MAX_SITES → b.lists.items ≡ new → b.fresh.items ≡ a.fresh.items → b.spare + 1 ≡ a.spare
        → b.spare ≤ vec_capacity b.site_ids - vec_len b.site_ids → b.spare ≤ vec_capacity b.lists - vec_len b.lists → b.spare ≤ vec_len b.fresh → IsStored b
    IsStored-with b ids rise few are fresh spare site_room list_room fresh_room =
        let same : length b.site_ids.items ≡ length a.site_ids.items + 1 = ap (λ (xs : List ℕ). length xs) ids ∙ longer in
        record {
          rising = subst IsStrictlyIncreasing (sym ids) rise;
          few = omega (arith, same, few);
          lists = subst (All (IsList (length b.site_ids.items) b.spare)) (sym are) (λ j d b'.
              let within : j < length a.lists.items = omega (arith, b', count) in
              let was = stored.lists j d within in
              let step = change j d within in
              let known : All (λ l. l.site < length a.site_ids.items + 1) (get_or new j d).lanes = known-more place (length a.site_ids.items) inside (get_or a.lists.items j d).lanes (get_or new j d).lanes step.others was.known in
              record { known = λ k e b''. omega (arith, same, known k e b''); ascending = step.ascending; room = omega (arith, spare, was.room, step.spare) });
          fresh = subst (All (IsFresh (length b.site_ids.items + b.spare))) (sym fresh) (fresh_less (length a.site_ids.items + a.spare) (length b.site_ids.items + b.spare) a.fresh.items (omega (arith, same, spare)) stored.fresh);
          site_room = site_room;
          list_room = list_room;
          fresh_room = fresh_room;
        }

    pub order-with : (I J : Instance) (order : Order) (spare : ℕ) (ids : List ℕ) (lists : List Listed) → IsValid I → IsValid J → stored_order a ≡ order → IsOrderOf order I → HasSiteMore I J place id row
        → ids ≡ insert a.site_ids.items place id → lists ≡ new → IsOrderOf (order_of ids lists spare) J
    order-with I J order spare ids lists valid valid' view of more ids-are lists-are =
        let before : IsOrderOf (stored_order a) I = subst (λ (o : Order). IsOrderOf o I) (sym view) of in
        let was : a.site_ids.items ≡ site_ids I = before.same_sites in
        let is : ids ≡ site_ids J = ids-are ∙ (λ k. insert (was k) place id) ∙ sym more.sites in
        let old = subst (λ (ns : List ℕ). IsOrderOf (order_of ns a.lists.items a.spare) I) was before in
        subst (λ (p : List ℕ × List Listed). IsOrderOf (order_of p.0 p.1 spare) J) (λ k. (sym is k, sym lists-are k))
        (order_with_site I J valid valid' place id row more a.lists.items new a.spare spare old count (subst (λ (ns : List ℕ). (j : ℕ) (d : Listed) → j < length a.lists.items → All (λ l. l.site < length ns) (get_or a.lists.items j d).lanes) was known_before) change)

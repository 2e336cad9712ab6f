-- An order to which a customer has come, or from which one has gone, is that of an instance that differs in that customer alone.
use Rattle.std.proofs.Common.{◌≡◌, ◌≢◌, ℕ, ◌+◌, ◌<◌, ◌≤◌, inl, inr, List, [], map, insert, remove, length, Option, get_or, slice_index, sym, ap, subst, ◌∙◌, arith}
use Rattle.std.proofs.lemmas.Bool.{cases_eq}
use Rattle.std.proofs.lemmas.List.{length-map, get_or-map}
use Rattle.std.proofs.lemmas.List.Edits.{length-insert, length-remove, get_or-insert_at}
use Rattle.location_terms.specs.Instance.{Instance, Customer, IsValid, customer_ids, customer_at, lane}
use Rattle.location_terms.proofs.Places.{length-customer_ids, slice_index-customer_ids}
use Rattle.location_terms.proofs.Rising.{one_place}
use Rattle.lane_order.specs.Order.{AreLanesTo, IsOrderOf}
use Rattle.lane_order.specs.Placed.{named}
use Rattle.lane_order.specs.Listed.{Listed, place_up, place_down}
use Rattle.lane_order.specs.Changed.{HasCustMore}
use Rattle.lane_order.proofs.Skipped.{up-apart, up-within, up-down, down-within, get_or-insert_up, get_or-remove_up}

-- lanes to a customer whose lanes are the same in both instances
pub same_lanes : (I J : Instance) (c : ℕ) (lanes : List (ℕ × ℕ)) → ((s : ℕ) → lane J s c ≡ lane I s c) → AreLanesTo I c lanes → AreLanesTo J c lanes
same_lanes I J c lanes same of = record { ascending = of.ascending; complete = λ cost s. (λ k. same s ∙ (of.complete cost s).0 k, λ is. (of.complete cost s).1 (sym (same s) ∙ is)) }

module _ (I J : Instance) (place c : ℕ) (row : List (Option ℕ)) (more : HasCustMore I J place c row) (valid : IsValid J) where
  inside : place ≤ length (customer_ids I)
  inside = omega (arith, more.within, length-customer_ids I)

  pub one_customer_more : length J.customers ≡ length I.customers + 1
  one_customer_more = omega (arith, length-customer_ids I, length-customer_ids J, ap (λ (xs : List ℕ). length xs) more.customers, length-insert (customer_ids I) place c inside)

  pub customer_kept : (j : ℕ) → j < length I.customers → (customer_at J (place_up place j)).id ≡ (customer_at I j).id
  customer_kept j b =
      sym (slice_index-customer_ids J (place_up place j) (omega (arith, up-within place j (length I.customers) b, one_customer_more)))
      ∙ ap (λ (xs : List ℕ). slice_index xs (place_up place j)) more.customers ∙ get_or-insert_up place (customer_ids I) 0 c j inside ∙ slice_index-customer_ids I j b

  pub customer_new : (customer_at J place).id ≡ c
  customer_new =
      sym (slice_index-customer_ids J place (omega (arith, more.within, one_customer_more)))
      ∙ ap (λ (xs : List ℕ). slice_index xs place) more.customers ∙ get_or-insert_at (customer_ids I) place c 0 inside

  pub customer_apart : (j : ℕ) → j < length I.customers → (customer_at I j).id ≢ c
  customer_apart j b same =
      up-apart place j (one_place (λ (x : Customer). x.id) J.customers _ valid.customers_named.rising (place_up place j) place
      (omega (arith, up-within place j (length I.customers) b, one_customer_more)) (omega (arith, more.within, one_customer_more)) (customer_kept j b ∙ same ∙ sym customer_new))

  same_order : (j : ℕ) → j < length I.customers → (s : ℕ) → lane J s (customer_at I j).id ≡ lane I s (customer_at I j).id
  same_order j b s = more.others s (customer_at I j).id (customer_apart j b)

  module _ (ids : List ℕ) (lists : List Listed) where
    abbrev seen : Listed → List (ℕ × ℕ)
    seen l = map (named ids) l.lanes

    -- without the customer
    pub order_without_customer : (was spare : ℕ) → IsOrderOf (record { sites = ids; lanes = map seen lists; spare = was }) J → IsOrderOf (record { sites = ids; lanes = map seen (remove lists place); spare = spare }) I
    order_without_customer was spare of = record {
      same_sites = of.same_sites ∙ more.sites;
      same_count = omega (arith, length-map (remove lists place) seen, shorter, counted, one_customer_more);
      each = λ j b.
          let to : AreLanesTo J (customer_at I j).id (get_or (map seen lists) (place_up place j) []) =
          subst (λ c. AreLanesTo J c (get_or (map seen lists) (place_up place j) [])) (customer_kept j b) (of.each (place_up place j) (omega (arith, up-within place j (length I.customers) b, one_customer_more))) in
          subst (AreLanesTo I (customer_at I j).id) (sym (at j b)) (same_lanes J I (customer_at I j).id _ (λ s. sym (same_order j b s)) to);
    }
      where
        none : Listed
        none = record { lanes = []; spare = 0 }

        counted : length lists ≡ length J.customers
        counted = sym (length-map lists seen) ∙ of.same_count

        there : place < length lists
        there = omega (arith, counted, one_customer_more, more.within)

        shorter : length (remove lists place) + 1 ≡ length lists
        shorter = length-remove lists place there

        at : (j : ℕ) → j < length I.customers → get_or (map seen (remove lists place)) j [] ≡ get_or (map seen lists) (place_up place j) []
        at j b =
            get_or-map seen (remove lists place) j none [] (omega (arith, b, shorter, counted, one_customer_more)) ∙ ap seen (get_or-remove_up place lists none j there)
            ∙ sym (get_or-map seen lists (place_up place j) none [] (omega (arith, up-within place j (length I.customers) b, counted, one_customer_more)))

    -- and with it, and the list of its lanes
    pub order_with_customer : (was spare : ℕ) (l : Listed) → IsOrderOf (record { sites = ids; lanes = map seen lists; spare = was }) I → AreLanesTo J c (seen l)
        → IsOrderOf (record { sites = ids; lanes = map seen (insert lists place l); spare = spare }) J
    order_with_customer was spare l of new = record {
      same_sites = of.same_sites ∙ sym more.sites;
      same_count = omega (arith, length-map (insert lists place l) seen, longer, counted, one_customer_more);
      each = λ j b. elim (cases_eq j place) [
        | inl same ↦
            subst (λ (p : ℕ × List (ℕ × ℕ)). AreLanesTo J p.0 p.1)
            (λ k. (sym (ap (λ i. (customer_at J i).id) same ∙ customer_new) k, sym (at j b ∙ ap (λ i. seen (get_or (insert lists place l) i l)) same ∙ ap seen (get_or-insert_at lists place l l there)) k)) new
        | inr other ↦
            let i = place_down place j in
            let back : place_up place i ≡ j = up-down place j other in
            let early : i < length I.customers = down-within place j (length I.customers) more.within (omega (arith, b, one_customer_more)) other in
            let is : get_or (map seen (insert lists place l)) j [] ≡ get_or (map seen lists) i [] =
            at j b ∙ ap (λ k. seen (get_or (insert lists place l) k l)) (sym back) ∙ ap seen (get_or-insert_up place lists l l i there) ∙ sym (get_or-map seen lists i l [] (omega (arith, early, counted))) in
            let id : (customer_at J j).id ≡ (customer_at I i).id = ap (λ k. (customer_at J k).id) (sym back) ∙ customer_kept i early in
            subst (λ (p : ℕ × List (ℕ × ℕ)). AreLanesTo J p.0 p.1) (λ k. (sym id k, sym is k)) (same_lanes I J (customer_at I i).id _ (same_order i early) (of.each i early))
      ];
    }
      where
        counted : length lists ≡ length I.customers
        counted = sym (length-map lists seen) ∙ of.same_count

        there : place ≤ length lists
        there = omega (arith, counted, more.within)

        longer : length (insert lists place l) ≡ length lists + 1
        longer = length-insert lists place l there

        at : (j : ℕ) → j < length J.customers → get_or (map seen (insert lists place l)) j [] ≡ seen (get_or (insert lists place l) j l)
        at j b = get_or-map seen (insert lists place l) j l [] (omega (arith, b, longer, counted, one_customer_more))

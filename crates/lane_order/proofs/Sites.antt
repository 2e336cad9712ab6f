-- An order to which a site has come, or from which one has gone, is that of an instance that differs in that site alone.
use Rattle.std.proofs.Common.{◌≡◌, ◌≢◌, ℕ, ◌+◌, ◌<◌, ◌≤◌, inl, inr, List, [], map, length, is_some, Option, None, Some, All, AllPairs, Contains, get_or, slice_index, slice_index_or, sym, ap, subst, ◌∙◌, refl, arith}
use Rattle.std.proofs.lemmas.Bool.{cases_eq}
use Rattle.std.proofs.lemmas.List.{length-map, get_or-map, get_or_default, map-id}
use Rattle.std.proofs.lemmas.List.Edits.{length-insert, get_or-insert_at}
use Rattle.std.specs.List.Sorted.{IsStrictlyIncreasing}
use Rattle.location_terms.specs.Instance.{Instance, IsValid, site_ids, customer_at, lane}
use Rattle.location_terms.proofs.Places.{length-site_ids, length-customer_ids, slice_index-customer_ids}
use Rattle.location_terms.proofs.Rising.{one_place}
use Rattle.lane_order.specs.declared.order.PlacedLane.{PlacedLane}
use Rattle.lane_order.specs.Order.{AreLanesTo, IsOrderOf}
use Rattle.lane_order.specs.Placed.{named}
use Rattle.lane_order.specs.Listed.{Listed, IsPlacedBefore, IsLaneFrom, HasLaneMore, HasLaneLess, place_up, place_down}
use Rattle.lane_order.specs.Changed.{HasSiteMore}
use Rattle.lane_order.proofs.Replaced.{from_site}
use Rattle.lane_order.proofs.Changed.{by_place, known_at, named_there, placed_there, named_ascend}
use Rattle.lane_order.proofs.Skipped.{up-apart, up-within, up-down, down-within, get_or-insert_up}
use Rattle.lane_order.proofs.Shifted.{lane-more, lane-less, known-more, known-less}

-- the lanes to a customer of an instance, by the places of their sites
module _ (I : Instance) (valid : IsValid I) (c : ℕ) (lanes : List PlacedLane) (known : All (λ l. l.site < length (site_ids I)) lanes) where
  abbrev ids : List ℕ
  ids = site_ids I

  rise : IsStrictlyIncreasing (site_ids I)
  rise = valid.sites_named.rising

  pub lanes_by_place : AreLanesTo I c (map (named (site_ids I)) lanes) → (i : ℕ) → i < length (site_ids I) → IsLaneFrom i (lane I (slice_index (site_ids I) i) c) lanes
  lanes_by_place of i b = by_place ids rise lanes known i b (lane I (slice_index ids i) c) (λ cost. of.complete cost (slice_index ids i))

  pub lanes_from_places : AllPairs IsPlacedBefore lanes → ((i : ℕ) → i < length (site_ids I) → IsLaneFrom i (lane I (slice_index (site_ids I) i) c) lanes) → AreLanesTo I c (map (named (site_ids I)) lanes)
  lanes_from_places ascending from = record { ascending = named_ascend ids rise lanes known ascending; complete = λ cost s. (listed cost s, held cost s) }
    where
      listed : (cost s : ℕ) → Contains (map (named (site_ids I)) lanes) (cost, s) → lane I s c ≡ Some cost
      listed cost s k =
          let p = placed_there ids rise lanes known (cost, s) k in
          let l : PlacedLane = p.0 in
          subst (λ (m : ℕ × ℕ). lane I m.1 c ≡ Some m.0) p.2 ((from l.site (known_at ids rise lanes known l p.1) l.cost).0 p.1)

      held : (cost s : ℕ) → lane I s c ≡ Some cost → Contains (map (named (site_ids I)) lanes) (cost, s)
      held cost s is =
          let t = (valid.lanes_known s c (ap is_some is)).0 in
          let id : slice_index ids t.0 ≡ s = get_or_default ids t.0 0 s t.1 ∙ t.2 in
          let there : Contains lanes (from_site t.0 cost) = (from t.0 t.1 cost).1 (ap (λ n. lane I n c) id ∙ is) in
          subst (λ n. Contains (map (named (site_ids I)) lanes) (cost, n)) id (named_there ids rise lanes known (from_site t.0 cost) there)

module _ (I J : Instance) (valid : IsValid I) (valid' : IsValid J) (place s : ℕ) (row : List (Option ℕ)) (more : HasSiteMore I J place s row) where
  inside : place ≤ length (site_ids I)
  inside = omega (arith, more.within, length-site_ids I)

  pub one_site_more : length (site_ids J) ≡ length (site_ids I) + 1
  one_site_more = ap (λ (xs : List ℕ). length xs) more.sites ∙ length-insert (site_ids I) place s inside

  site_kept : (i : ℕ) → slice_index (site_ids J) (place_up place i) ≡ slice_index (site_ids I) i
  site_kept i = ap (λ (xs : List ℕ). slice_index xs (place_up place i)) more.sites ∙ get_or-insert_up place (site_ids I) 0 s i inside

  site_new : slice_index (site_ids J) place ≡ s
  site_new = ap (λ (xs : List ℕ). slice_index xs place) more.sites ∙ get_or-insert_at (site_ids I) place s 0 inside

  site_apart : (i : ℕ) → i < length (site_ids I) → slice_index (site_ids I) i ≢ s
  site_apart i b same =
      up-apart place i (one_place (λ (n : ℕ). n) (site_ids J) 0 (subst IsStrictlyIncreasing (sym (map-id (site_ids J))) valid'.sites_named.rising) (place_up place i) place
      (omega (arith, up-within place i (length (site_ids I)) b, one_site_more)) (omega (arith, inside, one_site_more)) (site_kept i ∙ same ∙ sym site_new))

  -- the lane from a site that is in both
  lane_kept : (c i : ℕ) → i < length (site_ids I) → lane J (slice_index (site_ids J) (place_up place i)) c ≡ lane I (slice_index (site_ids I) i) c
  lane_kept c i b = ap (λ t. lane J t c) (site_kept i) ∙ more.others (slice_index (site_ids I) i) c (site_apart i b)

  module _ (c : ℕ) (old new : Listed) where
    lanes_with_site : All (λ l. l.site < length (site_ids I)) old.lanes → AreLanesTo I c (map (named (site_ids I)) old.lanes) → HasLaneMore place (lane J s c) old new → AreLanesTo J c (map (named (site_ids J)) new.lanes)
    lanes_with_site known of change =
        let n : ℕ = length (site_ids I) in
        let known' : All (λ l. l.site < length (site_ids J)) new.lanes = λ k d b. omega (arith, one_site_more, known-more place n inside old.lanes new.lanes change.others known k d b) in
        lanes_from_places J valid' c new.lanes known' change.ascending (λ i b. elim (cases_eq i place) [
          | inl same ↦ subst (λ (p : ℕ × Option ℕ). IsLaneFrom p.0 p.1 new.lanes) (λ k. (sym same k, lane J (sym (ap (slice_index (site_ids J)) same ∙ site_new) k) c)) change.given
          | inr other ↦
              let k = place_down place i in
              let back : place_up place k ≡ i = up-down place i other in
              let early : k < n = down-within place i n inside (omega (arith, b, one_site_more)) other in
              let was = lane-more place k old.lanes new.lanes (lane I (slice_index (site_ids I) k) c) change.others (lanes_by_place I valid c old.lanes known of k early) in
              subst (λ (p : ℕ × Option ℕ). IsLaneFrom p.0 p.1 new.lanes) (λ m. (back m, (sym (lane_kept c k early) ∙ ap (λ q. lane J (slice_index (site_ids J) q) c) back) m)) was
        ])

    lanes_without_site : All (λ l. l.site < length (site_ids J)) old.lanes → AreLanesTo J c (map (named (site_ids J)) old.lanes) → HasLaneLess place old new → AreLanesTo I c (map (named (site_ids I)) new.lanes)
    lanes_without_site known of change =
        let n : ℕ = length (site_ids I) in
        let known' : All (λ l. l.site < n) new.lanes = known-less place n inside new.lanes old.lanes change.others (λ k d b. omega (arith, one_site_more, known k d b)) in
        lanes_from_places I valid c new.lanes known' change.ascending (λ i b.
        let late : place_up place i < length (site_ids J) = omega (arith, up-within place i n b, one_site_more) in
        let was = lane-less place i new.lanes old.lanes (lane J (slice_index (site_ids J) (place_up place i)) c) change.others (lanes_by_place J valid' c old.lanes known of (place_up place i) late) in
        subst (λ (o : Option ℕ). IsLaneFrom i o new.lanes) (lane_kept c i b) was)

  same_customers : length J.customers ≡ length I.customers
  same_customers = sym (length-customer_ids J) ∙ ap (λ (xs : List ℕ). length xs) more.customers ∙ length-customer_ids I

  same_customer : (j : ℕ) → j < length I.customers → (customer_at J j).id ≡ (customer_at I j).id
  same_customer j b = sym (slice_index-customer_ids J j (omega (arith, b, same_customers))) ∙ ap (λ (xs : List ℕ). slice_index xs j) more.customers ∙ slice_index-customer_ids I j b

  abbrev none : Listed
  none = record { lanes = []; spare = 0 }

  abbrev seen : List ℕ → Listed → List (ℕ × ℕ)
  seen ids l = map (named ids) l.lanes

  -- the order with the site
  pub order_with_site : (lists lists' : List Listed) (was spare : ℕ) → IsOrderOf (record { sites = site_ids I; lanes = map (seen (site_ids I)) lists; spare = was }) I
      → length lists' ≡ length lists → ((j : ℕ) (d : Listed) → j < length lists → All (λ l. l.site < length (site_ids I)) (get_or lists j d).lanes)
      → ((j : ℕ) (d : Listed) → j < length lists → HasLaneMore place (slice_index_or row j None) (get_or lists j d) (get_or lists' j d))
      → IsOrderOf (record { sites = site_ids J; lanes = map (seen (site_ids J)) lists'; spare = spare }) J
  order_with_site lists lists' was spare of count known change =
      let counted : length lists ≡ length I.customers = sym (length-map lists (seen (site_ids I))) ∙ of.same_count in
      record {
        same_sites = refl;
        same_count = length-map lists' (seen (site_ids J)) ∙ count ∙ counted ∙ sym same_customers;
        each = λ j b.
            let early : j < length I.customers = omega (arith, b, same_customers) in
            let here : j < length lists = omega (arith, early, counted) in
            let old = get_or lists j none in
            let new = get_or lists' j none in
            let before : AreLanesTo I (customer_at I j).id (seen (site_ids I) old) = subst (AreLanesTo I (customer_at I j).id) (get_or-map (seen (site_ids I)) lists j none [] here) (of.each j early) in
            let step : HasLaneMore place (lane J s (customer_at I j).id) old new = subst (λ (o : Option ℕ). HasLaneMore place o old new) (sym (more.own j early)) (change j none here) in
            subst (λ (p : ℕ × List (ℕ × ℕ)). AreLanesTo J p.0 p.1)
            (λ k. (sym (same_customer j early) k, sym (get_or-map (seen (site_ids J)) lists' j none [] (omega (arith, here, count))) k))
            (lanes_with_site (customer_at I j).id old new (known j none here) before step);
      }

  -- and without it
  pub order_without_site : (lists lists' : List Listed) (was spare : ℕ) → IsOrderOf (record { sites = site_ids J; lanes = map (seen (site_ids J)) lists; spare = was }) J
      → length lists' ≡ length lists → ((j : ℕ) (d : Listed) → j < length lists → All (λ l. l.site < length (site_ids J)) (get_or lists j d).lanes)
      → ((j : ℕ) (d : Listed) → j < length lists → HasLaneLess place (get_or lists j d) (get_or lists' j d))
      → IsOrderOf (record { sites = site_ids I; lanes = map (seen (site_ids I)) lists'; spare = spare }) I
  order_without_site lists lists' was spare of count known change =
      let counted : length lists ≡ length J.customers = sym (length-map lists (seen (site_ids J))) ∙ of.same_count in
      record {
        same_sites = refl;
        same_count = length-map lists' (seen (site_ids I)) ∙ count ∙ counted ∙ same_customers;
        each = λ j b.
            let here : j < length lists = omega (arith, b, same_customers, counted) in
            let old = get_or lists j none in
            let new = get_or lists' j none in
            let at : AreLanesTo J (customer_at I j).id (get_or (map (seen (site_ids J)) lists) j []) = subst (λ c. AreLanesTo J c (get_or (map (seen (site_ids J)) lists) j [])) (same_customer j b) (of.each j (omega (arith, b, same_customers))) in
            let before : AreLanesTo J (customer_at I j).id (seen (site_ids J) old) = subst (AreLanesTo J (customer_at I j).id) (get_or-map (seen (site_ids J)) lists j none [] here) at in
            subst (AreLanesTo I (customer_at I j).id) (sym (get_or-map (seen (site_ids I)) lists' j none [] (omega (arith, here, count))))
            (lanes_without_site (customer_at I j).id old new (known j none here) before (change j none here));
      }

-- An order in which one lane is replaced is that of an instance that differs in that lane alone.
use Rattle.std.proofs.Common.{◌≡◌, ◌≢◌, ◌↔◌, ℕ, ◌+◌, ◌<◌, ◌≤◌, inl, inr, List, [], map, length, All, AllPairs, Contains, Option, Some, get_or, slice_index, set, sym, ap, subst, ◌∙◌, arith}
use Rattle.std.proofs.lemmas.Bool.{cases_eq}
use Rattle.std.proofs.lemmas.List.{length-map, length-set, get_or-map, get_or_default, map-id, get_or-set_same, get_or-set_other}
use Rattle.std.proofs.lemmas.List.Elements.{All-set}
use Rattle.std.proofs.lemmas.List.Kept.{AllPairs-from_increasing}
use Rattle.std.specs.List.Sorted.{IsStrictlyIncreasing}
use Rattle.location_terms.specs.Instance.{Instance, Customer, IsValid, site_ids, site_at, customer_at, lane}
use Rattle.location_terms.proofs.Places.{length-site_ids, length-customer_ids, slice_index-site_ids, slice_index-customer_ids}
use Rattle.location_terms.proofs.Rising.{one_place}
use Rattle.lane_order.specs.declared.order.PlacedLane.{PlacedLane}
use Rattle.lane_order.specs.Order.{Order, IsBefore, AreLanesTo, IsOrderOf, lanes_to}
use Rattle.lane_order.specs.Placed.{named}
use Rattle.lane_order.specs.Listed.{Listed, IsPlacedBefore, IsLaneFrom, HaveSameOthers, IsList}
use Rattle.lane_order.specs.Changed.{IsLaneTo, DifferInLane}
use Rattle.lane_order.specs.declared.order.LaneOrder.TheInside.{Inside}
use Rattle.lane_order.specs.Stored.{stored_order, IsStored}
use Rattle.lane_order.proofs.Replaced.{from_site}

abbrev no_lane : PlacedLane
no_lane = record { cost = 0; site = 0 }

-- lanes by the places of their sites, and by the ids
module _ (ids : List ℕ) (rise : IsStrictlyIncreasing ids) where
  one_site : (i k : ℕ) → i < length ids → k < length ids → slice_index ids i ≡ slice_index ids k → i ≡ k
  one_site i k b c same = one_place (λ (n : ℕ). n) ids 0 (subst IsStrictlyIncreasing (sym (map-id ids)) rise) i k b c same

  module _ (lanes : List PlacedLane) (known : All (λ l. l.site < length ids) lanes) where
    pub known_at : (l : PlacedLane) → Contains lanes l → l.site < length ids
    known_at l k = subst (λ (m : PlacedLane). m.site < length ids) k.2 (known k.0 l k.1)

    pub named_there : (l : PlacedLane) → Contains lanes l → Contains (map (named ids) lanes) (named ids l)
    named_there l k = (k.0, omega (arith, k.1, length-map lanes (named ids)), get_or-map (named ids) lanes k.0 l (named ids l) k.1 ∙ ap (named ids) k.2)

    pub placed_there : (m : ℕ × ℕ) → Contains (map (named ids) lanes) m → (l : PlacedLane) × Contains lanes l × (named ids l ≡ m)
    placed_there m k =
        let b : k.0 < length lanes = omega (arith, k.1, length-map lanes (named ids)) in
        let l = get_or lanes k.0 no_lane in
        (l, (k.0, b, get_or_default lanes k.0 l no_lane b), sym (get_or-map (named ids) lanes k.0 no_lane m b) ∙ k.2)

    pub named_ascend : AllPairs IsPlacedBefore lanes → AllPairs IsBefore (map (named ids) lanes)
    named_ascend ascending i k d below within =
        let inside : k < length lanes = omega (arith, within, length-map lanes (named ids)) in
        let a = get_or lanes i no_lane in
        let b = get_or lanes k no_lane in
        let ordered : IsBefore (named ids a) (named ids b) =
        elim (ascending i k no_lane below inside) [ inl less ↦ inl less | inr tie ↦ inr (tie.0, AllPairs-from_increasing ids rise a.site b.site 0 tie.1 (known k no_lane inside)) ] in
        subst (λ (p : (ℕ × ℕ) × (ℕ × ℕ)). IsBefore p.0 p.1)
        (λ m. (sym (get_or-map (named ids) lanes i no_lane d (omega (arith, below, inside))) m, sym (get_or-map (named ids) lanes k no_lane d inside) m)) ordered

    -- what is known of a lane by the id of its site is known by the place
    pub by_place : (site : ℕ) → site < length ids → (o : Option ℕ) → IsLaneTo (slice_index ids site) o (map (named ids) lanes) → IsLaneFrom site o lanes
    by_place site b o by_id = λ cost. (
      λ k. (by_id cost).0 (named_there (from_site site cost) k),
      λ same.
          let p = placed_there (cost, slice_index ids site) ((by_id cost).1 same) in
          let c : p.0.cost ≡ cost = ap (λ (m : ℕ × ℕ). m.0) p.2 in
          let s : p.0.site ≡ site = one_site p.0.site site (known_at p.0 p.1) b (ap (λ (m : ℕ × ℕ). m.1) p.2) in
          subst (Contains lanes) (λ n. record { cost = c n; site = s n }) p.1,
    )

  module _ (I J : Instance) (site cust : ℕ) (given : Option ℕ) (differ : DifferInLane I J site cust given) (are : ids ≡ site_ids I) (within : site < length ids) where
    id-is : slice_index ids site ≡ (site_at I site).id
    id-is = ap (λ (xs : List ℕ). slice_index xs site) are ∙ slice_index-site_ids I site (omega (arith, within, ap (λ (xs : List ℕ). length xs) are, length-site_ids I))

    -- the lanes to the customer with the one replaced
    pub replaced_lanes : (old new : List PlacedLane) → All (λ l. l.site < length ids) old → All (λ l. l.site < length ids) new → AreLanesTo I (customer_at I cust).id (map (named ids) old) → AllPairs IsPlacedBefore new
        → IsLaneFrom site given new → HaveSameOthers site old new → AreLanesTo J (customer_at I cust).id (map (named ids) new)
    replaced_lanes old new known_old known_new of ascending from others = record { ascending = named_ascend new known_new ascending; complete = λ cost s. (listed cost s, held cost s) }
      where
        c : ℕ
        c = (customer_at I cust).id

        listed : (cost s : ℕ) → Contains (map (named ids) new) (cost, s) → lane J s c ≡ Some cost
        listed cost s k =
            let p = placed_there new known_new (cost, s) k in
            let l : PlacedLane = p.0 in
            let cost-is : l.cost ≡ cost = ap (λ (m : ℕ × ℕ). m.0) p.2 in
            let s-is : slice_index ids l.site ≡ s = ap (λ (m : ℕ × ℕ). m.1) p.2 in
            elim (cases_eq l.site site) [
              | inl same ↦
                  let there : Contains new (from_site site l.cost) = subst (Contains new) (λ n. record { cost = l.cost; site = same n }) p.1 in
                  let id : s ≡ (site_at I site).id = sym s-is ∙ ap (slice_index ids) same ∙ id-is in
                  ap (λ t. lane J t c) id ∙ differ.changed ∙ (from l.cost).0 there ∙ ap (λ n. Some n) cost-is
              | inr other ↦
                  let there = named_there old known_old l ((others l other).0 p.1) in
                  let before : lane I s c ≡ Some cost = (of.complete cost s).0 (subst (Contains (map (named ids) old)) p.2 there) in
                  differ.others s c (λ both. other (one_site l.site site (known_at new known_new l p.1) within (s-is ∙ both.0 ∙ sym id-is))) ∙ before
            ]

        held : (cost s : ℕ) → lane J s c ≡ Some cost → Contains (map (named ids) new) (cost, s)
        held cost s is =
            elim (cases_eq s (site_at I site).id) [
              | inl same ↦
                  let there : Contains new (from_site site cost) = (from cost).1 (sym differ.changed ∙ ap (λ t. lane J t c) (sym same) ∙ is) in
                  subst (λ t. Contains (map (named ids) new) (cost, t)) (id-is ∙ sym same) (named_there new known_new (from_site site cost) there)
              | inr apart ↦
                  let before : lane I s c ≡ Some cost = sym (differ.others s c (λ both. apart both.0)) ∙ is in
                  let p = placed_there old known_old (cost, s) ((of.complete cost s).1 before) in
                  let other : p.0.site ≢ site = λ same. apart (sym (ap (λ (m : ℕ × ℕ). m.1) p.2) ∙ ap (slice_index ids) same ∙ id-is) in
                  subst (Contains (map (named ids) new)) p.2 (named_there new known_new p.0 ((others p.0 other).1 p.1))
            ]

    -- and those to another customer
    pub other_lanes : (c : ℕ) (lanes : List (ℕ × ℕ)) → (c ≡ (customer_at I cust).id → ⊥) → AreLanesTo I c lanes → AreLanesTo J c lanes
    other_lanes c lanes apart of = record {
      ascending = of.ascending;
      complete = λ cost s.
          let same = differ.others s c (λ both. apart both.1) in
          (λ k. same ∙ (of.complete cost s).0 k, λ is. (of.complete cost s).1 (sym same ∙ is));
    }

-- what an order has of a lane is what its instance has
pub lane_of_order : (I : Instance) (order : Order) → IsOrderOf order I → (site cust : ℕ) → site < length I.sites → cust < length I.customers → IsLaneTo (slice_index order.sites site) (lane I (site_at I site).id (customer_at I cust).id) (lanes_to order cust)
lane_of_order I order of site cust within inside = λ cost.
    let id : slice_index order.sites site ≡ (site_at I site).id = ap (λ (xs : List ℕ). slice_index xs site) of.same_sites ∙ slice_index-site_ids I site within in
    subst (λ s. Contains (lanes_to order cust) (cost, s) ↔ (lane I (site_at I site).id (customer_at I cust).id ≡ Some cost)) (sym id) ((of.each cust inside).complete cost (site_at I site).id)

-- lanes of which one was replaced come from sites that are known
pub known_after : (sites site : ℕ) (old new : List PlacedLane) → site < sites → All (λ l. l.site < sites) old → HaveSameOthers site old new → All (λ l. l.site < sites) new
known_after sites site old new within known others k d below =
    let x = get_or new k d in
    elim (cases_eq x.site site) [
      | inl same ↦ omega (arith, same, within)
      | inr other ↦
          let there : Contains old x = (others x other).0 (k, below, get_or_default new k x d below) in
          subst (λ (m : PlacedLane). m.site < sites) there.2 (known there.0 x there.1)
    ]

-- the stored lists with one of them replaced
module _ (a : Inside) (stored : IsStored a) (site cust : ℕ) (l l' : Listed) (within : site < length a.site_ids.items) (inside : cust < length a.lists.items) (item : l ≡ get_or a.lists.items cust l)
    (others : HaveSameOthers site l.lanes l'.lanes) (ascending : AllPairs IsPlacedBefore l'.lanes) where
  is_list : IsList (length a.site_ids.items) a.spare l
  is_list = subst (IsList (length a.site_ids.items) a.spare) (sym item) (stored.lists cust l inside)

  known_new : All (λ x. x.site < length a.site_ids.items) l'.lanes
  known_new = known_after (length a.site_ids.items) site l.lanes l'.lanes within is_list.known others

  pub lists_after : (spare : ℕ) → spare + 1 ≡ a.spare → l.spare ≤ l'.spare + 1 → All (IsList (length a.site_ids.items) spare) (set a.lists.items cust l')
  lists_after spare less room =
      All-set (IsList (length a.site_ids.items) spare) a.lists.items cust l' (record { known = known_new; ascending = ascending; room = omega (arith, less, room, is_list.room) }) (λ k d below.
      let was = stored.lists k d below in
      record { known = was.known; ascending = was.ascending; room = omega (arith, less, was.room) })

  module _ (given : Option ℕ) (from : IsLaneFrom site given l'.lanes) (I J : Instance) (valid : IsValid I) (order : Order) (view : stored_order a ≡ order) (of : IsOrderOf order I) (differ : DifferInLane I J site cust given) where
    before : IsOrderOf (stored_order a) I
    before = subst (λ (o : Order). IsOrderOf o I) (sym view) of

    counts : length J.customers ≡ length I.customers
    counts = sym (length-customer_ids J) ∙ ap (λ (xs : List ℕ). length xs) differ.customers ∙ length-customer_ids I

    customer-is : (j : ℕ) → j < length I.customers → (customer_at J j).id ≡ (customer_at I j).id
    customer-is j b = sym (slice_index-customer_ids J j (omega (arith, b, counts))) ∙ ap (λ (xs : List ℕ). slice_index xs j) differ.customers ∙ slice_index-customer_ids I j b

    pub order_after : (spare : ℕ) → IsOrderOf (record { sites = a.site_ids.items; lanes = map (λ x. map (named a.site_ids.items) x.lanes) (set a.lists.items cust l'); spare = spare }) J
    order_after spare = record {
      same_sites = before.same_sites ∙ sym differ.sites;
      same_count = length-map (set a.lists.items cust l') (λ x. map (named a.site_ids.items) x.lanes) ∙ length-set a.lists.items cust l' ∙ sym (length-map a.lists.items (λ x. map (named a.site_ids.items) x.lanes)) ∙ before.same_count ∙ sym counts;
      each = λ j b. lanes_after j (omega (arith, b, counts));
    }
      where
        listed : length a.lists.items ≡ length I.customers
        listed = sym (length-map a.lists.items (λ (x : Listed). map (named a.site_ids.items) x.lanes)) ∙ before.same_count

        lanes_after : (j : ℕ) → j < length I.customers → AreLanesTo J (customer_at J j).id (get_or (map (λ x. map (named a.site_ids.items) x.lanes) (set a.lists.items cust l')) j [])
        lanes_after j b =
            let here : j < length (set a.lists.items cust l') = omega (arith, b, listed, length-set a.lists.items cust l') in
            let at : get_or (map (λ x. map (named a.site_ids.items) x.lanes) (set a.lists.items cust l')) j [] ≡ map (named a.site_ids.items) (get_or (set a.lists.items cust l') j l).lanes = get_or-map (λ (x : Listed). map (named a.site_ids.items) x.lanes) (set a.lists.items cust l') j l [] here in
            let was : AreLanesTo I (customer_at I j).id (map (named a.site_ids.items) (get_or a.lists.items j l).lanes) =
            subst (AreLanesTo I (customer_at I j).id) (get_or-map (λ (x : Listed). map (named a.site_ids.items) x.lanes) a.lists.items j l [] (omega (arith, b, listed))) (before.each j b) in
            elim (cases_eq j cust) [
              | inl same ↦
                  let new : get_or (set a.lists.items cust l') j l ≡ l' = ap (λ k. get_or (set a.lists.items cust l') k l) same ∙ get_or-set_same a.lists.items cust l' l inside in
                  let id : (customer_at J j).id ≡ (customer_at I cust).id = customer-is j b ∙ ap (λ k. (customer_at I k).id) same in
                  let old : AreLanesTo I (customer_at I cust).id (map (named a.site_ids.items) l.lanes) =
                  subst (λ (x : Listed). AreLanesTo I (customer_at I cust).id (map (named a.site_ids.items) x.lanes)) (sym item) (subst (λ k. AreLanesTo I (customer_at I k).id (map (named a.site_ids.items) (get_or a.lists.items k l).lanes)) same was) in
                  subst (λ (p : ℕ × List (ℕ × ℕ)). AreLanesTo J p.0 p.1) (λ k. (sym id k, sym (at ∙ ap (λ (x : Listed). map (named a.site_ids.items) x.lanes) new) k))
                  (replaced_lanes a.site_ids.items stored.rising I J site cust given differ before.same_sites within l.lanes l'.lanes is_list.known known_new old ascending from others)
              | inr other ↦
                  let kept : get_or (set a.lists.items cust l') j l ≡ get_or a.lists.items j l = get_or-set_other a.lists.items cust j l' l other in
                  let apart : (customer_at I j).id ≡ (customer_at I cust).id → ⊥ = λ same. other (one_place (λ (c : Customer). c.id) I.customers _ valid.customers_named.rising j cust b (omega (arith, inside, listed)) same) in
                  subst (λ (p : ℕ × List (ℕ × ℕ)). AreLanesTo J p.0 p.1) (λ k. (sym (customer-is j b) k, sym (at ∙ ap (λ (x : Listed). map (named a.site_ids.items) x.lanes) kept) k))
                  (other_lanes a.site_ids.items stored.rising I J site cust given differ before.same_sites within (customer_at I j).id _ apart was)
            ]

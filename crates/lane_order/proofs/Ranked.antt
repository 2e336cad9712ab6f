-- Lanes that are sorted by cost and place are the lanes to a customer in order, by the ids of their sites.
use Rattle.std.proofs.Common.{◌≡◌, ◌⊎◌, ℕ, ◌<◌, ◌≤◌, false, inl, inr, List, map, length, All, AllPairs, Contains, Some, get_or, slice_index, is_some, sym, ap, subst, ◌∙◌, arith}
use Rattle.std.proofs.lemmas.Bool.{cases_order, eqb-false, false≢true}
use Rattle.std.proofs.lemmas.Cmp.{nat_eq_equiv}
use Rattle.std.proofs.lemmas.List.{length-map, get_or-map, get_or_default}
use Rattle.std.proofs.lemmas.List.Kept.{AllPairs-from_increasing}
use Rattle.std.proofs.lemmas.List.Sorted.{ranks_by, sorted_far, All-permutation, Contains-permutation}
use Rattle.std.proofs.lemmas.Map.Keys.{apart_from_distinct, IsDistinct-IsPermutation}
use Rattle.std.specs.Cmp.{nat_cmp_is}
use Rattle.std.specs.List.{IsDistinct}
use Rattle.std.specs.List.Sorted.{IsStrictlyIncreasing}
use Rattle.std.specs.Ordering.{nat_cmp, ordering_then, is_lt}
use Rattle.std.specs.declared.cmp.Ordering.TheVariants.{Less, Equal}
use Rattle.location_terms.specs.Instance.{Instance, IsValid, site_at, customer_at, lane, site_ids}
use Rattle.location_terms.proofs.Places.{length-site_ids, slice_index-site_ids}
use Rattle.location_terms.proofs.Table.{pair_cmp-total}
use Rattle.lane_order.specs.declared.order.PlacedLane.{PlacedLane}
use Rattle.lane_order.specs.Order.{IsBefore, AreLanesTo}
use Rattle.lane_order.specs.Placed.{named}
use Rattle.lane_order.specs.Building.{placed_cmp, first_lanes, AreSortedLanes}
use Rattle.lane_order.proofs.Gathered.{IsLaneOf, first_lanes_are, first_lanes_have, first_lanes_differ, same_site}

-- a lane at a place that is not less than one of another site comes after it
pub after : (p q r s : ℕ) → is_lt (ordering_then (nat_cmp q p) (nat_cmp s r)) ≡ false → (r ≡ s → ⊥) → (p < q) ⊎ ((p ≡ q) × (r < s))
after p q r s not_less apart =
    elim (cases_order p q) [
      | inl same ↦
          elim (cases_order r s) [
            | inl one ↦ absurd (apart one)
            | inr other ↦ elim other [
              | inl less ↦ inr (same, less)
              | inr more ↦
                  let first : nat_cmp q p ≡ Equal = sym (nat_cmp_is q p Equal (sym same)) in
                  let second : nat_cmp s r ≡ Less = sym (nat_cmp_is s r Less more) in
                  absurd (false≢true (sym not_less ∙ (λ k. is_lt (ordering_then (first k) (second k)))))
            ]
          ]
      | inr other ↦ elim other [
        | inl less ↦ inl less
        | inr more ↦
            let first : nat_cmp q p ≡ Less = sym (nat_cmp_is q p Less more) in
            absurd (false≢true (sym not_less ∙ ap (λ o. is_lt (ordering_then o (nat_cmp s r))) first))
      ]
    ]

abbrev no_lane : PlacedLane
no_lane = record { cost = 0; site = 0 }

module _ (I : Instance) (j : ℕ) (lanes : List PlacedLane) (of : AreSortedLanes I j lanes) where
  lanes_are : All (IsLaneOf I j (length I.sites)) lanes
  lanes_are = All-permutation (IsLaneOf I j (length I.sites)) (first_lanes I j (length I.sites)) lanes of.all (first_lanes_are I j (length I.sites))

  pub lanes_known : All (λ l. l.site < length I.sites) lanes
  lanes_known k d b = (lanes_are k d b).below

  lanes_differ : IsDistinct same_site lanes
  lanes_differ = IsDistinct-IsPermutation same_site (λ a b. nat_eq_equiv.symm a.site b.site) (first_lanes I j (length I.sites)) lanes of.all (first_lanes_differ I j (length I.sites))

  not_less : (i k : ℕ) (d : PlacedLane) → i ≤ k → k < length lanes → is_lt (placed_cmp (get_or lanes k d) (get_or lanes i d)) ≡ false
  not_less i k d below within = sorted_far (λ a b. is_lt (placed_cmp a b)) (ranks_by pair_cmp-total (λ (l : PlacedLane). (l.cost, l.site))) lanes of.sorted i k d below within

  pub lanes_ascend : (i k : ℕ) (d : PlacedLane) → i < k → k < length lanes → ((get_or lanes i d).cost < (get_or lanes k d).cost) ⊎ (((get_or lanes i d).cost ≡ (get_or lanes k d).cost) × ((get_or lanes i d).site < (get_or lanes k d).site))
  lanes_ascend i k d below within =
      after (get_or lanes i d).cost (get_or lanes k d).cost (get_or lanes i d).site (get_or lanes k d).site (not_less i k d (omega arith) within)
      (eqb-false _ _ (apart_from_distinct same_site lanes i k d lanes_differ below within))

  module _ (rise : IsStrictlyIncreasing (site_ids I)) where
    at_place : (l : PlacedLane) → l.site < length I.sites → slice_index (site_ids I) l.site ≡ (site_at I l.site).id
    at_place l b = slice_index-site_ids I l.site b

    named_ascend : AllPairs IsBefore (map (named (site_ids I)) lanes)
    named_ascend i k d below within =
        let inside : k < length lanes = omega (arith, within, length-map lanes (named (site_ids I))) in
        let a = get_or lanes i no_lane in
        let b = get_or lanes k no_lane in
        let ordered : IsBefore (named (site_ids I) a) (named (site_ids I) b) =
        elim (lanes_ascend i k no_lane below inside) [
          | inl less ↦ inl less
          | inr tie ↦ inr (tie.0, AllPairs-from_increasing (site_ids I) rise a.site b.site 0 tie.1 (omega (arith, length-site_ids I, lanes_known k no_lane inside)))
        ] in
        subst (λ (p : (ℕ × ℕ) × (ℕ × ℕ)). IsBefore p.0 p.1)
        (λ m. (sym (get_or-map (named (site_ids I)) lanes i no_lane d (omega arith)) m, sym (get_or-map (named (site_ids I)) lanes k no_lane d inside) m)) ordered

    listed : (cost s : ℕ) → Contains (map (named (site_ids I)) lanes) (cost, s) → lane I s (customer_at I j).id ≡ Some cost
    listed cost s k =
        let inside : k.0 < length lanes = omega (arith, k.1, length-map lanes (named (site_ids I))) in
        let l = get_or lanes k.0 no_lane in
        let is : named (site_ids I) l ≡ (cost, s) = sym (get_or-map (named (site_ids I)) lanes k.0 no_lane (cost, s) inside) ∙ k.2 in
        let id : (site_at I l.site).id ≡ s = sym (at_place l (lanes_known k.0 no_lane inside)) ∙ ap (λ (p : ℕ × ℕ). p.1) is in
        subst (λ t. lane I t (customer_at I j).id ≡ Some l.cost) id (lanes_are k.0 no_lane inside).is ∙ ap (λ (p : ℕ × ℕ). Some p.0) is

    held : (cost s : ℕ) → lane I s (customer_at I j).id ≡ Some cost → Contains (site_ids I) s → Contains (map (named (site_ids I)) lanes) (cost, s)
    held cost s is k =
        let place : k.0 < length I.sites = omega (arith, k.1, length-site_ids I) in
        let id : slice_index (site_ids I) k.0 ≡ s = get_or_default (site_ids I) k.0 0 s k.1 ∙ k.2 in
        let l : PlacedLane = record { cost = cost; site = k.0 } in
        let there : lane I (site_at I k.0).id (customer_at I j).id ≡ Some cost = ap (λ t. lane I t (customer_at I j).id) (sym (slice_index-site_ids I k.0 place) ∙ id) ∙ is in
        let m = Contains-permutation (first_lanes I j (length I.sites)) lanes l of.all (first_lanes_have I j (length I.sites) k.0 cost place there) in
        (m.0, omega (arith, m.1, length-map lanes (named (site_ids I))), get_or-map (named (site_ids I)) lanes m.0 l (cost, s) m.1 ∙ ap (named (site_ids I)) m.2 ∙ (λ n. (cost, id n)))

    pub AreLanesTo-sorted : IsValid I → AreLanesTo I (customer_at I j).id (map (named (site_ids I)) lanes)
    AreLanesTo-sorted valid = record {
      ascending = named_ascend;
      complete = λ cost s. (listed cost s, λ is. held cost s is (valid.lanes_known s (customer_at I j).id (ap is_some is)).0);
    }

-- The first lane of a customer's that may be taken is the cheapest, and has the least site among those.
use Rattle.std.proofs.Common.{◌≡◌, ◌⊎◌, ℕ, ◌+◌, ◌<◌, ◌≤◌, Bool, true, false, List, map, length, get_or, slice_index, Option, None, Some, unwrap_or, refl, sym, ap, subst, inl, inr, ◌∙◌, arith}
use Rattle.std.specs.Prelude.{Contains, All, AllPairs, is_some, ◌&&◌}
use Rattle.std.specs.List.{range_with_len}
use Rattle.std.proofs.lemmas.Bool.{cases_eq, cases_order, both_ways, and_parts}
use Rattle.std.proofs.lemmas.List.{length-map, get_or-map, get_or_default}
use Rattle.std.proofs.lemmas.List.Kept.{AllPairs-filter, AllPairs-from_increasing}
use Rattle.location_terms.specs.Instance.{Instance, IsValid, site_at, customer_at, lane}
use Rattle.location_terms.specs.Box.{Path, is_allowed, holds_demand}
use Rattle.lane_order.specs.declared.order.PlacedLane.{PlacedLane}
use Rattle.lane_order.specs.Order.{Order, IsBefore, IsOrderOf, lanes_to}
use Rattle.lane_order.specs.Placed.{named}
use Rattle.lane_order.proofs.Walks.{id-of, site_within, placed_is_lane, lane_is_placed}
use Rattle.dual_adjust.proofs.IdsRise.{places_rise, sites_rise}
use Rattle.plan_search.specs.Packed.{cost_at, cheapest}
use Rattle.plan_search.specs.Flags.{is_set, flagged}
use Rattle.plan_search.specs.Packing.{room_at, roomy}
use Rattle.plan_search.proofs.Among.{passed, Contains-filter, place-contained, contained-place}
use Rattle.plan_search.proofs.Picked.{IsCheapest, cheapest_is, cheapest_among, cheapest_some}
use Rattle.dual_ascent.proofs.Walked.{lane_parts}

some_cost : (o : Option ℕ) → is_some o ≡ true → o ≡ Some (unwrap_or o 0)
some_cost None e = cc
some_cost (Some x) e = refl

-- the box and the room let the customer take the lane from the site
abbrev pub may_take : Instance → Path → List (Option ℕ) → ℕ → ℕ → Bool
may_take I path rooms j i = is_allowed I path (site_at I i) (customer_at I j) && holds_demand (room_at rooms i) (customer_at I j).demand

-- the customer can't take the lane
abbrev pub IsPassed : Instance → Path → List Bool → List (Option ℕ) → ℕ → PlacedLane → Type 0
IsPassed I path flags rooms j l = (is_set flags l.site ≡ false) ⊎ (may_take I path rooms j l.site ≡ false)

-- one lane more that the customer can't take
pub passed_to : (I : Instance) (path : Path) (flags : List Bool) (rooms : List (Option ℕ)) (j : ℕ) (lanes : List PlacedLane) (k : ℕ) (e : PlacedLane) → k < length lanes → ((m : ℕ) (d : PlacedLane) → m < k → IsPassed I path flags rooms j (get_or lanes m d))
    → IsPassed I path flags rooms j (get_or lanes k e) → (m : ℕ) (d : PlacedLane) → m < k + 1 → IsPassed I path flags rooms j (get_or lanes m d)
passed_to I path flags rooms j lanes k e b before here m d below =
    elim (cases_eq m k) [
      | inl same ↦ subst (λ n. IsPassed I path flags rooms j (get_or lanes n d)) (sym same) (subst (IsPassed I path flags rooms j) (get_or_default lanes k e d b) here)
      | inr other ↦ before m d (omega (arith, below, other))
    ]

module _ (I : Instance) (valid : IsValid I) (order : Order) (of : IsOrderOf order I) (path : Path) (flags : List Bool) (long : length flags ≡ length I.sites) (rooms : List (Option ℕ)) (j : ℕ) (within : j < length I.customers)
    (lanes : List PlacedLane) (exact : map (named order.sites) lanes ≡ lanes_to order j) (known : All (λ l. l.site < length order.sites) lanes) where
  abbrev may : ℕ → Bool
  may = may_take I path rooms j

  abbrev sites : List ℕ
  sites = roomy I path (flagged flags) rooms j

  sites_have : (i : ℕ) → i < length I.sites → is_set flags i ≡ true → may i ≡ true → Contains sites i
  sites_have i b set can = Contains-filter may (flagged flags) i (Contains-filter (is_set flags) (range_with_len 0 (length flags)) i (place-contained (length flags) i (omega (arith, b, long))) set) can

  -- a site with room has a lane, which none before it passes over
  record HasLane (i : ℕ) : Type 0 where
    below : i < length I.sites
    set : is_set flags i ≡ true
    can : may i ≡ true
    rank : ℕ
    inside : rank < length lanes
    is : (d : PlacedLane) → get_or lanes rank d ≡ record { cost = cost_at I i j; site = i }

  has_lane : (i : ℕ) → Contains sites i → HasLane i
  has_lane i c =
      let flag : Contains (flagged flags) i × (may i ≡ true) = passed may (flagged flags) i c in
      let place : Contains (range_with_len 0 (length flags)) i × (is_set flags i ≡ true) = passed (is_set flags) (range_with_len 0 (length flags)) i flag.0 in
      let b : i < length I.sites = omega (arith, contained-place (length flags) i place.0, long) in
      let some : is_some (lane I (site_at I i).id (customer_at I j).id) ≡ true = (lane_parts I path i j (and_parts _ _ flag.1).0).1 in
      let at : Contains lanes (record { cost = cost_at I i j; site = i }) = lane_is_placed I order of j within lanes exact known valid.sites_named.rising i (cost_at I i j) b (some_cost (lane I (site_at I i).id (customer_at I j).id) some) in
      record { below = b; set = place.1; can = flag.1; rank = at.0; inside = at.1; is = λ d. get_or_default lanes at.0 d _ at.1 ∙ at.2 }

  not_passed : (i k : ℕ) (d : PlacedLane) (has : HasLane i) → has.rank ≡ k → IsPassed I path flags rooms j (get_or lanes k d) → ⊥
  not_passed i k d has same passes =
      let here : (get_or lanes k d).site ≡ i = ap (λ n. (get_or lanes n d).site) (sym same) ∙ ap (λ (l : PlacedLane). l.site) (has.is d) in
      elim (subst (λ n. (is_set flags n ≡ false) ⊎ (may n ≡ false)) here passes) [
        | inl unset ↦ both_ways (is_set flags i) unset has.set
        | inr cannot ↦ both_ways (may i) cannot has.can
      ]

  pub none_left : ((k : ℕ) (d : PlacedLane) → k < length lanes → IsPassed I path flags rooms j (get_or lanes k d)) → None ≡ cheapest I j sites
  none_left passes = by (cheapest I j sites) refl
    where
      by : (o : Option ℕ) → cheapest I j sites ≡ o → None ≡ o
      by None e = refl
      by (Some i) e =
          let has : HasLane i = has_lane i (cheapest_among I j sites i e) in
          let any : PlacedLane = record { cost = 0; site = 0 } in
          absurd (not_passed i has.rank any has refl (passes has.rank any has.inside))

  -- lanes in order, by place
  in_order : (k m : ℕ) (d : PlacedLane) → k < m → m < length lanes → ((get_or lanes k d).cost < (get_or lanes m d).cost) ⊎ (((get_or lanes k d).cost ≡ (get_or lanes m d).cost) × ((get_or lanes k d).site < (get_or lanes m d).site))
  in_order k m d before b =
      let a : PlacedLane = get_or lanes k d in
      let z : PlacedLane = get_or lanes m d in
      let inside : m < length (lanes_to order j) = omega (arith, b, ap length exact, length-map lanes (named order.sites)) in
      let seen : (n : ℕ) → n < length lanes → get_or (lanes_to order j) n (0, 0) ≡ named order.sites (get_or lanes n d) = λ n c. ap (λ ls. get_or ls n (0, 0)) (sym exact) ∙ get_or-map (named order.sites) lanes n d (0, 0) c in
      let ordered : IsBefore (named order.sites a) (named order.sites z) =
      subst (λ (p : (ℕ × ℕ) × (ℕ × ℕ)). IsBefore p.0 p.1) (λ n. (seen k (omega arith) n, seen m b n)) ((of.each j within).ascending k m (0, 0) before inside) in
      let first : a.site < length I.sites = site_within I order of j within lanes exact known k d (omega arith) in
      let second : z.site < length I.sites = site_within I order of j within lanes exact known m d b in
      elim ordered [
        | inl less ↦ inl less
        | inr tie ↦ inr (
          tie.0,
          elim (cases_order a.site z.site) [
            | inl same ↦ let ids : slice_index order.sites a.site ≡ slice_index order.sites z.site = ap (slice_index order.sites) same in let up = tie.1 in absurd (omega (arith, up, ids))
            | inr other ↦ elim other [
              | inl below ↦ below
              | inr above ↦
                  let up = tie.1 in
                  let falls : (site_at I z.site).id < (site_at I a.site).id = sites_rise I valid z.site a.site above first in
                  absurd (omega (arith, up, falls, id-of I order of j within lanes exact known a.site first, id-of I order of j within lanes exact known z.site second))
            ]
          ],
        )
      ]

  sites_rise_too : AllPairs (λ x y. x < y) sites
  sites_rise_too = AllPairs-filter (λ x y. x < y) may (flagged flags) (AllPairs-filter (λ x y. x < y) (is_set flags) (range_with_len 0 (length flags)) (AllPairs-from_increasing (range_with_len 0 (length flags)) (places_rise (length flags))))

  module _ (k : ℕ) (d : PlacedLane) (b : k < length lanes) (passes : (m : ℕ) → m < k → IsPassed I path flags rooms j (get_or lanes m d)) where
    -- one at a greater place is no better, and one that costs as much stands behind
    no_later : (i : ℕ) → IsCheapest I j sites i → (has : HasLane i) → k < has.rank → Contains sites (get_or lanes k d).site → ⊥
    no_later i is has after c =
        let s : ℕ = (get_or lanes k d).site in
        let cost : cost_at I s j ≡ (get_or lanes k d).cost = ap (λ o. unwrap_or o 0) (placed_is_lane I order of j within lanes exact known k d b) in
        let at : get_or sites c.0 s ≡ s = c.2 in
        let least : cost_at I i j ≤ cost_at I s j = subst (λ x. cost_at I i j ≤ cost_at I x j) at (is.least c.0 s c.1) in
        elim (in_order k has.rank d after has.inside) [
          | inl less ↦ omega (arith, less, cost, least, ap (λ (l : PlacedLane). l.cost) (has.is d))
          | inr tie ↦
              let same = tie.0 in
              let up = tie.1 in
              let up_to : s < i = omega (arith, up, ap (λ (l : PlacedLane). l.site) (has.is d)) in
              let equal : cost_at I s j ≡ cost_at I i j = omega (arith, same, cost, ap (λ (l : PlacedLane). l.cost) (has.is d)) in
              elim (cases_order c.0 is.place) [
                | inl here ↦ omega (arith, up_to, at, is.is s, ap (λ n. get_or sites n s) here)
                | inr other ↦ elim other [
                  | inl before ↦ let more : cost_at I i j < cost_at I s j = subst (λ x. cost_at I i j < cost_at I x j) at (is.first c.0 s before) in omega (arith, more, equal)
                  | inr behind ↦ omega (arith, up_to, at, is.is s, sites_rise_too is.place c.0 s behind c.1)
                ]
              ]
        ]

    pub first_is_cheapest : is_set flags (get_or lanes k d).site ≡ true → may (get_or lanes k d).site ≡ true → Some (get_or lanes k d).site ≡ cheapest I j sites
    first_is_cheapest set can = by (cheapest I j sites) refl
      where
        there : Contains sites (get_or lanes k d).site
        there = sites_have (get_or lanes k d).site (site_within I order of j within lanes exact known k d b) set can

        by : (o : Option ℕ) → cheapest I j sites ≡ o → Some (get_or lanes k d).site ≡ o
        by None e = absurd (cheapest_some I j sites (get_or lanes k d).site there e)
        by (Some i) e =
            let is : IsCheapest I j sites i = cheapest_is I j sites i e in
            let has : HasLane i = has_lane i (cheapest_among I j sites i e) in
            elim (cases_order has.rank k) [
              | inl same ↦ ap Some (ap (λ n. (get_or lanes n d).site) (sym same) ∙ ap (λ (l : PlacedLane). l.site) (has.is d))
              | inr other ↦ elim other [
                | inl before ↦ absurd (not_passed i has.rank d has refl (passes has.rank before))
                | inr after ↦ absurd (no_later i is has after there)
              ]
            ]

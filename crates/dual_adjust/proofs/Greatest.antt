-- The greatest level below a customer's dual, found out by a walk over the customer's lanes.
use Rattle.std.proofs.Common.{◌≡◌, ℕ, ◌+◌, ◌*◌, ◌<◌, ◌≤◌, refl, sym, ap, subst, ◌∙◌, inl, inr, arith, Bool, true, false, cond, List, [], ◌∷◌, length, get_or, Option, Some, None, ℤ, pos, ◌≤ℤ◌}
use Rattle.std.specs.Prelude.{All, Contains, int_lt, int_le, if◌then◌else◌}
use Rattle.std.specs.List.{fold}
use Rattle.std.specs.Int.{int_max}
use Rattle.std.proofs.lemmas.Bool.{false≢true, cases_Bool, cases_lt, and_from, and_parts}
use Rattle.std.proofs.lemmas.Int.{ints, clamps, fold-int_max_bounds, fold-int_max_reached}
use Rattle.std.proofs.lemmas.List.{length-map, get_or-map}
use Rattle.std.proofs.lemmas.List.Elements.{All-cons, All-head, All-tail, All-contains, All-filter, All-map, Contains-get_or, filter_passes}
use Rattle.location_terms.specs.Instance.{Instance, site_at, customer_at}
use Rattle.location_terms.specs.Box.{Path, is_allowed}
use Rattle.location_terms.specs.Bound.{Duals, v_at, level_at}
use Rattle.lane_order.specs.declared.order.PlacedLane.{PlacedLane}
use Rattle.lane_order.specs.Order.{Order}
use Rattle.lane_order.proofs.Walks.{site_within}
use Rattle.dual_ascent.specs.Levels.{servers, levels_of}
use Rattle.dual_adjust.specs.Adjustment.{greatest}
use Rattle.dual_adjust.specs.Paid.{is_paid, levels_below, greater_of}
use Rattle.dual_adjust.specs.Walk.{IsLaneWalk}
use Rattle.dual_adjust.proofs.MoreThanOne.{kept_by}
use Rattle.dual_adjust.proofs.Violating.{is_server, server_within}
use Rattle.dual_adjust.proofs.LanesPaid.{site_of, none, paid_rank, dear_on}

none_greatest : (xs : List ℤ) → ((x : ℤ) → Contains xs x → ⊥) → greatest xs ≡ None
none_greatest [] empty = refl
none_greatest (x ∷ xs) empty = absurd (empty x (0, omega arith, refl))

-- a number of the list with no greater one in it
greatest_is : (xs : List ℤ) (m : ℤ) → Contains xs m → All (λ x. x ≤ℤ m) xs → greatest xs ≡ Some m
greatest_is [] m has least = let b = has.1 in absurd (omega (arith, b))
greatest_is (x ∷ xs) m has above =
    let top : ℤ = fold int_max x xs in
    let bounds = fold-int_max_bounds x xs top refl in
    let at_least = bounds.0 in
    let more : m ≤ℤ top = All-contains (λ y. y ≤ℤ top) (x ∷ xs) m (All-cons (λ y. y ≤ℤ top) x xs at_least bounds.1) has in
    let less : top ≤ℤ m =
    elim (fold-int_max_reached x xs top refl) [
      | inl first ↦ subst (λ y. y ≤ℤ m) (sym first) (All-head (λ y. y ≤ℤ m) x xs above)
      | inr later ↦ All-contains (λ y. y ≤ℤ m) xs top (All-tail (λ y. y ≤ℤ m) x xs above) later
    ] in
    let same : top ≡ m = omega (arith, ints, more, less) in
    ap (λ (y : ℤ). Some y) same

module _ (p : ℕ → Bool) (f : ℕ → ℤ) (at : ℕ → ℕ) where
  -- of the first k, this is the greatest number of those that pass, if any does
  abbrev pub IsBest : ℕ → Option ℤ → Type 0
  IsBest k None = (r : ℕ) → r < k → p (at r) ≡ false
  IsBest k (Some m) = (one : ℕ) × (one < k) × (p (at one) ≡ true) × (f (at one) ≡ m) × ((r : ℕ) → r < k → p (at r) ≡ true → f (at r) ≤ℤ m)

  no_best : IsBest 0 None
  no_best r b = absurd (omega (arith, b))

  -- those up to n fail
  best_on : (best : Option ℤ) (k n : ℕ) → IsBest k best → ((r : ℕ) → k ≤ r → r < n → p (at r) ≡ false) → k ≤ n → IsBest n best
  best_on None k n none later up = λ r b. elim (cases_lt r k) [ inl before ↦ none r before | inr after ↦ later r after b ]
  best_on (Some m) k n found later up =
      let here = found.1 in
      (found.0, omega (arith, here, up), found.2, found.3, λ r b t. elim (cases_lt r k) [ inl before ↦ found.4 r before t | inr after ↦ absurd (false≢true (sym (later r after b) ∙ t)) ])

  best_next : (best : Option ℤ) (k : ℕ) → IsBest k best → p (at k) ≡ false → IsBest (k + 1) best
  best_next best k so_far fails = best_on best k (k + 1) so_far (λ r low b. let same : r ≡ k = omega (arith, low, b) in ap (λ n. p (at n)) same ∙ fails) (omega arith)

  best_first : (k : ℕ) → IsBest k None → p (at k) ≡ true → IsBest (k + 1) (Some (f (at k)))
  best_first k none passes = (
    k,
    omega arith,
    passes,
    refl,
    λ r b t. elim (cases_lt r k) [
      | inl before ↦ absurd (false≢true (sym (none r before) ∙ t))
      | inr after ↦ let same : r ≡ k = omega (arith, after, b) in let value : f (at r) ≡ f (at k) = ap (λ n. f (at n)) same in omega (arith, ints, value)
    ],
  )

  best_more : (k : ℕ) (m : ℤ) → IsBest k (Some m) → p (at k) ≡ true → IsBest (k + 1) (Some (int_max m (f (at k))))
  best_more k m found passes =
      let all : (r : ℕ) → r < k + 1 → p (at r) ≡ true → f (at r) ≤ℤ int_max m (f (at k)) = λ r b t. elim (cases_lt r k) [
        | inl before ↦ let less = found.4 r before t in omega (arith, ints, clamps, less)
        | inr after ↦ let same : r ≡ k = omega (arith, after, b) in let value : f (at r) ≡ f (at k) = ap (λ n. f (at n)) same in omega (arith, ints, clamps, value)
      ] in
      elim (cases_Bool (int_lt (f (at k)) m)) [
        | inl less ↦ let before = found.1 in (found.0, omega (arith, before), found.2, found.3 ∙ sym (ap (λ (t : Bool). cond t m (f (at k))) less), all)
        | inr not ↦ (k, omega arith, passes, sym (ap (λ (t : Bool). cond t m (f (at k))) not), all)
      ]

  step_by : (t : Bool) (best : Option ℤ) (k : ℕ) → p (at k) ≡ t → IsBest k best → IsBest (k + 1) (greater_of best (if t then Some (f (at k)) else None))
  step_by false None k fails so_far = best_next None k so_far fails
  step_by false (Some m) k fails so_far = best_next (Some m) k so_far fails
  step_by true None k passes so_far = best_first k so_far passes
  step_by true (Some m) k passes so_far = best_more k m so_far passes

  -- with the next one's number, where it passes
  best_step : (best l : Option ℤ) (k : ℕ) → IsBest k best → l ≡ (if p (at k) then Some (f (at k)) else None) → IsBest (k + 1) (greater_of best l)
  best_step best l k so_far is = subst (λ o. IsBest (k + 1) (greater_of best o)) (sym is) (step_by (p (at k)) best k refl so_far)

module _ (I : Instance) (path : Path) (d : Duals) (order : Order) (j : ℕ) (lanes : List PlacedLane) (walk : IsLaneWalk I order j lanes) where
  abbrev pub pays : ℕ → Bool
  pays i = is_paid I path d i j

  abbrev pub level : ℕ → ℤ
  level i = level_at I d i j

  abbrev pub site : ℕ → ℕ
  site = site_of I path d order j lanes walk

  below_is_paid : (l : ℤ) → Contains (levels_below I path d j) l → (i : ℕ) × (i < length I.sites) × (pays i ≡ true) × (level i ≡ l)
  below_is_paid l c =
      let below : ℤ → Bool = λ x. int_lt x (v_at d j) in
      let Of : ℤ → Type 0 = λ x. (i : ℕ) × Contains (servers I path j) i × (level i ≡ x) in
      let each : All Of (levels_of I path d j) = All-map Of level (servers I path j) (λ k x b. (get_or (servers I path j) k x, Contains-get_or (servers I path j) k x b, refl)) in
      let of = All-contains Of (levels_below I path d j) l (All-filter below Of (levels_of I path d j) each) c in
      let less : below l ≡ true = All-contains (λ x. below x ≡ true) (levels_below I path d j) l (filter_passes below (levels_of I path d j)) c in
      let server = server_within I path of.0 j of.1 in
      (of.0, server.0, and_from (is_allowed I path (site_at I of.0) (customer_at I j)) (int_lt (level of.0) (v_at d j)) server.1 (ap below of.2 ∙ less), of.2)

  paid_is_below : (i : ℕ) → i < length I.sites → pays i ≡ true → Contains (levels_below I path d j) (level i)
  paid_is_below i b paid =
      let parts = and_parts (is_allowed I path (site_at I i) (customer_at I j)) (int_lt (level i) (v_at d j)) paid in
      let server = is_server I path i j b parts.0 in
      let inside = server.1 in
      let listed : Contains (levels_of I path d j) (level i) = (server.0, omega (arith, inside, length-map (servers I path j) level), get_or-map level (servers I path j) server.0 i (level i) inside ∙ ap level server.2) in
      kept_by (λ x. int_lt x (v_at d j)) (levels_of I path d j) (level i) listed parts.1

  walked_greatest : (best : Option ℤ) → IsBest pays level site (length lanes) best → greatest (levels_below I path d j) ≡ best
  walked_greatest None fails =
      none_greatest (levels_below I path d j) (λ l c.
      let of = below_is_paid l c in
      let rank = paid_rank I path d order j lanes walk of.0 of.1 of.2 in
      false≢true (sym (fails rank.0 rank.1) ∙ ap pays rank.2 ∙ of.2))
  walked_greatest (Some m) found =
      let inside : site found.0 < length I.sites = site_within I order walk.order_of j walk.within lanes walk.exact walk.known found.0 none found.1 in
      let has : Contains (levels_below I path d j) m = subst (Contains (levels_below I path d j)) found.3 (paid_is_below (site found.0) inside found.2) in
      greatest_is (levels_below I path d j) m has (λ k x b.
      let l : ℤ = get_or (levels_below I path d j) k x in
      let of = below_is_paid l (Contains-get_or (levels_below I path d j) k x b) in
      let rank = paid_rank I path d order j lanes walk of.0 of.1 of.2 in
      let less = found.4 rank.0 rank.1 (ap pays rank.2 ∙ of.2) in
      let same : level (site rank.0) ≡ l = ap level rank.2 ∙ of.3 in
      omega (arith, ints, less, same))

  -- what is known of the first k lanes
  abbrev pub IsFound : ℕ → Option ℤ → Type 0
  IsFound = IsBest pays level site

  pub none_found : IsFound 0 None
  none_found = no_best pays level site

  -- with the next lane's level, where it is paid
  pub found_next : (best l next : Option ℤ) (k : ℕ) → IsFound k best → l ≡ (if pays (site k) then Some (level (site k)) else None) → next ≡ greater_of best l → IsFound (k + 1) next
  found_next best l next k so_far is greater = subst (IsFound (k + 1)) (sym greater) (best_step pays level site best l k so_far is)

  pub found_all : (best : Option ℤ) (k : ℕ) → k ≡ length lanes → IsFound k best → best ≡ greatest (levels_below I path d j)
  found_all best k all so_far = sym (walked_greatest best (subst (λ n. IsFound n best) all so_far))

  -- from a lane that costs as much as the dual on, nothing more is found
  pub found_before : (best : Option ℤ) (k : ℕ) → k < length lanes → int_le (v_at d j) (pos (d.q * (get_or lanes k none).cost)) ≡ true → IsFound k best → best ≡ greatest (levels_below I path d j)
  found_before best k b dear so_far = sym (walked_greatest best (best_on pays level site best k (length lanes) so_far (dear_on I path d order j lanes walk k b dear) (omega (arith, b))))

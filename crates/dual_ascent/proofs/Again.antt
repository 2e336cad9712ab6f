-- What the ascent leads to is its own ascent.
use Rattle.std.proofs.Common.{◌≡◌, ℕ, ◌<◌, refl, sym, ap, subst, ◌∙◌, arith, length, List, [], ◌∷◌, Option, Some, None, unwrap_or, ℤ, pos, ◌≤ℤ◌}
use Rattle.std.specs.Prelude.{⊤, All, MatchOption}
use Rattle.std.specs.List.{fold}
use Rattle.std.specs.Int.{int_max}
use Rattle.std.proofs.lemmas.Int.{ints, clamps}
use Rattle.std.proofs.lemmas.List.{get_or-set_same}
use Rattle.std.proofs.lemmas.List.Elements.{All-nil, All-cons, All-head, All-tail, All-weaker}
use Rattle.location_terms.specs.Instance.{Instance}
use Rattle.location_terms.specs.Box.{Path}
use Rattle.location_terms.specs.Bound.{Duals, v_at}
use Rattle.dual_ascent.specs.Levels.{least_level}
use Rattle.dual_ascent.specs.Ascent.{with_v, seated, rounds, IsAscendedOver}
use Rattle.dual_ascent.proofs.Fair.{with_same}
use Rattle.dual_ascent.proofs.Raised.{IsRisen, seated_is_risen}
use Rattle.dual_ascent.proofs.Rounds.{AreKnown, seats_are_risen, rounds_are_risen}
use Rattle.dual_ascent.proofs.Ceiling.{same_prices}

seat_at_least : (o : Option ℤ) (v x : ℤ) → x ≡ int_max v (unwrap_or o v) → MatchOption o ⊤ (λ l. l ≤ℤ x)
seat_at_least None v x e = tt
seat_at_least (Some l) v x e = omega (arith, ints, clamps)

seat_no_higher : (o : Option ℤ) (v : ℤ) → MatchOption o ⊤ (λ l. l ≤ℤ v) → int_max v (unwrap_or o v) ≡ v
seat_no_higher None v h = omega (arith, ints, clamps)
seat_no_higher (Some l) v h = omega (arith, ints, clamps)

still_at_least : (o : Option ℤ) (v w : ℤ) → v ≤ℤ w → MatchOption o ⊤ (λ l. l ≤ℤ v) → MatchOption o ⊤ (λ l. l ≤ℤ w)
still_at_least None v w up h = tt
still_at_least (Some l) v w up h = omega (arith, ints)

module _ (I : Instance) (path : Path) where
  -- the customer's dual is at its least level or above
  abbrev pub IsSeated : Duals → ℕ → Type 0
  IsSeated d j = MatchOption (least_level I path d j) ⊤ (λ l. l ≤ℤ v_at d j)

  pub seated_stays : (d e : Duals) (j : ℕ) → IsRisen I path d e → IsSeated d j → IsSeated e j
  seated_stays d e j up seat =
      let above : MatchOption (least_level I path d j) ⊤ (λ l. l ≤ℤ v_at e j) = still_at_least (least_level I path d j) (v_at d j) (v_at e j) (up.above j) seat in
      subst (λ f. MatchOption (least_level I path f j) ⊤ (λ l. l ≤ℤ v_at e j)) (same_prices d e up.form up.scale up.count_price up.prices) above

  step_seats : (d : Duals) (j : ℕ) → j < length d.v → IsSeated (seated I path d j) j
  step_seats d j here = seat_at_least (least_level I path d j) (v_at d j) (v_at (seated I path d j) j) (get_or-set_same d.v j (int_max (v_at d j) (unwrap_or (least_level I path d j) (v_at d j))) (pos 0) here)

  pub seats_hold : (d : Duals) → length d.v ≡ length I.customers → (customers : List ℕ) → AreKnown I path customers → All (IsSeated (fold (seated I path) d customers)) customers
  seats_hold d long [] known = All-nil (IsSeated d)
  seats_hold d long (j ∷ js) known =
      let in_range : j < length I.customers = All-head (λ k. k < length I.customers) j js known in
      let rest : AreKnown I path js = All-tail (λ k. k < length I.customers) j js known in
      let here : j < length d.v = omega (arith, in_range, long) in
      let e : Duals = seated I path d j in
      let long_after : length e.v ≡ length I.customers = (seated_is_risen I path d j in_range here).customers ∙ long in
      All-cons (IsSeated (fold (seated I path) e js)) j js (seated_stays e (fold (seated I path) e js) j (seats_are_risen I path e long_after js rest) (step_seats d j here)) (seats_hold e long_after js rest)

  unmoved : (d : Duals) (j : ℕ) → IsSeated d j → seated I path d j ≡ d
  unmoved d j seat =
      ap (with_v d j) (seat_no_higher (least_level I path d j) (v_at d j) seat) ∙ with_same d j

  all_unmoved : (d : Duals) (customers : List ℕ) → All (IsSeated d) customers → fold (seated I path) d customers ≡ d
  all_unmoved d [] seats = refl
  all_unmoved d (j ∷ js) seats = ap (λ f. fold (seated I path) f js) (unmoved d j (All-head (IsSeated d) j js seats)) ∙ all_unmoved d js (All-tail (IsSeated d) j js seats)

  pub no_rounds : (customers : List ℕ) (d : Duals) → rounds I path customers d 0 ≡ d
  unfolding rounds
  no_rounds customers d = refl

  module _ (customers : List ℕ) (known : AreKnown I path customers) (start : Duals) (long : length start.v ≡ length I.customers) (result : Duals) (asc : IsAscendedOver I path customers start result) where
    -- no dual of the result is below its least level
    pub result_is_seated : All (IsSeated result) customers
    result_is_seated =
        let seats : Duals = fold (seated I path) start customers in
        let first : IsRisen I path start seats = seats_are_risen I path start long customers known in
        let later : IsRisen I path seats result = subst (λ f. IsRisen I path seats f) (sym asc.after) (rounds_are_risen I path customers known seats (first.customers ∙ long) asc.count) in
        All-weaker (IsSeated seats) (IsSeated result) (λ j seat. seated_stays seats result j later seat) customers (seats_hold start long customers known)

    pub again : IsAscendedOver I path customers result result
    again =
        let same : fold (seated I path) result customers ≡ result = all_unmoved result customers result_is_seated in
        record { count = 0; after = sym (no_rounds customers (fold (seated I path) result customers) ∙ same); settled = asc.settled }

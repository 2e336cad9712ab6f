-- What rounds of the ascent keep, that a round that changes nothing leaves every customer blocked, and that the ascent has
-- one result.
use Rattle.std.proofs.Common.{◌≡◌, ℕ, zero, suc, ◌<◌, ◌≤◌, refl, sym, ap, subst, ◌∙◌, inl, inr, arith, true, length, List, [], ◌∷◌, ℤ, ◌≤ℤ◌, ◌<ℤ◌}
use Rattle.std.specs.Prelude.{◌⊎◌, All}
use Rattle.std.specs.List.{fold}
use Rattle.std.proofs.lemmas.Int.{ints}
use Rattle.std.proofs.lemmas.Bool.{cases_Bool, cases_eq, cases_order}
use Rattle.std.proofs.lemmas.List.Elements.{All-nil, All-cons, All-head, All-tail}
use Rattle.location_terms.specs.Instance.{Instance}
use Rattle.location_terms.specs.Box.{Path}
use Rattle.location_terms.specs.Bound.{Duals, v_at, total, bound_of}
use Rattle.location_terms.proofs.Totals.{total_le}
use Rattle.dual_ascent.specs.Ascent.{is_blocked, seated, raised, round, rounds, IsAscendedOver}
use Rattle.dual_ascent.proofs.Raised.{IsRisen, same_is_risen, risen_again, seated_is_risen, raised_is_risen, raised_blocked, raised_more}

module _ (I : Instance) (path : Path) where
  abbrev pub value_sum : Duals → ℤ
  value_sum d = total (v_at d) (length I.customers)

  -- the sum of the duals is no lower, nor is the bound
  pub sum_is_risen : (d e : Duals) → IsRisen I path d e → value_sum d ≤ℤ value_sum e
  sum_is_risen d e up = total_le (v_at d) (v_at e) (length I.customers) (λ k _. up.above k)

  pub bound_is_risen : (d e : Duals) → IsRisen I path d e → bound_of I path d ≤ℤ bound_of I path e
  bound_is_risen d e up = omega (arith, ints, up.bound, sum_is_risen d e up)

  -- the places of customers
  abbrev pub AreKnown : List ℕ → Type 0
  AreKnown customers = All (λ j. j < length I.customers) customers

  module _ (step : Duals → ℕ → Duals) (one : (d : Duals) (j : ℕ) → j < length I.customers → j < length d.v → IsRisen I path d (step d j)) where
    fold_is_risen : (d : Duals) → length d.v ≡ length I.customers → (customers : List ℕ) → AreKnown customers → IsRisen I path d (fold step d customers)
    fold_is_risen d long [] known = same_is_risen I path d
    fold_is_risen d long (j ∷ js) known =
        let in_range : j < length I.customers = All-head (λ k. k < length I.customers) j js known in
        let first : IsRisen I path d (step d j) = one d j in_range (omega (arith, in_range, long)) in
        risen_again I path d (step d j) (fold step (step d j) js) first
        (fold_is_risen (step d j) (first.customers ∙ long) js (All-tail (λ k. k < length I.customers) j js known))

  pub seats_are_risen : (d : Duals) → length d.v ≡ length I.customers → (customers : List ℕ) → AreKnown customers → IsRisen I path d (fold (seated I path) d customers)
  seats_are_risen = fold_is_risen (seated I path) (seated_is_risen I path)

  pub raises_are_risen : (d : Duals) → length d.v ≡ length I.customers → (customers : List ℕ) → AreKnown customers → IsRisen I path d (fold (raised I path) d customers)
  raises_are_risen = fold_is_risen (raised I path) (raised_is_risen I path)

  -- raises that change nothing find every customer blocked
  fixed_blocks : (d : Duals) → length d.v ≡ length I.customers → (customers : List ℕ) → AreKnown customers → fold (raised I path) d customers ≡ d → All (λ j. is_blocked I path d j ≡ true) customers
  fixed_blocks d long [] known fixed = All-nil (λ j. is_blocked I path d j ≡ true)
  fixed_blocks d long (j ∷ js) known fixed =
      let in_range : j < length I.customers = All-head (λ k. k < length I.customers) j js known in
      let here : j < length d.v = omega (arith, in_range, long) in
      let rest : AreKnown js = All-tail (λ k. k < length I.customers) j js known in
      let e : Duals = raised I path d j in
      elim (cases_Bool (is_blocked I path d j)) [
        | inl blocked ↦
            let same : e ≡ d = raised_blocked I path d j blocked in
            All-cons (λ k. is_blocked I path d k ≡ true) j js blocked (fixed_blocks d long js rest (ap (λ f. fold (raised I path) f js) (sym same) ∙ fixed))
        | inr free ↦
            let long_after : length e.v ≡ length I.customers = (raised_is_risen I path d j in_range here).customers ∙ long in
            let more = raised_more I path d j in_range here free in
            let later = sum_is_risen e (fold (raised I path) e js) (raises_are_risen e long_after js rest) in
            absurd (omega (arith, ints, more, later, ap value_sum fixed))
      ]

  -- raises change nothing, or make the sum of the duals greater
  pub raises_move : (d : Duals) → length d.v ≡ length I.customers → (customers : List ℕ) → AreKnown customers → (fold (raised I path) d customers ≡ d) ⊎ (value_sum d <ℤ value_sum (fold (raised I path) d customers))
  raises_move d long [] known = inl refl
  raises_move d long (j ∷ js) known =
      let in_range : j < length I.customers = All-head (λ k. k < length I.customers) j js known in
      let here : j < length d.v = omega (arith, in_range, long) in
      let rest : AreKnown js = All-tail (λ k. k < length I.customers) j js known in
      let e : Duals = raised I path d j in
      elim (cases_Bool (is_blocked I path d j)) [
        | inl blocked ↦
            let same : e ≡ d = raised_blocked I path d j blocked in
            let Moves : Duals → Type 0 = λ f. (fold (raised I path) f js ≡ d) ⊎ (value_sum d <ℤ value_sum (fold (raised I path) f js)) in
            subst Moves (sym same) (raises_move d long js rest)
        | inr free ↦
            let long_after : length e.v ≡ length I.customers = (raised_is_risen I path d j in_range here).customers ∙ long in
            let more = raised_more I path d j in_range here free in
            let later = sum_is_risen e (fold (raised I path) e js) (raises_are_risen e long_after js rest) in
            inr (omega (arith, ints, more, later))
      ]

  module _ (customers : List ℕ) (known : AreKnown customers) where
    pub round_is_risen : (d : Duals) → length d.v ≡ length I.customers → IsRisen I path d (round I path customers d)
    unfolding round
    round_is_risen d long = raises_are_risen d long customers known

    pub round_blocks : (d : Duals) → length d.v ≡ length I.customers → round I path customers d ≡ d → All (λ j. is_blocked I path d j ≡ true) customers
    unfolding round
    round_blocks d long fixed = fixed_blocks d long customers known fixed

    pub round_moves : (d : Duals) → length d.v ≡ length I.customers → (round I path customers d ≡ d) ⊎ (value_sum d <ℤ value_sum (round I path customers d))
    unfolding round
    round_moves d long = raises_move d long customers known

    pub rounds_are_risen : (d : Duals) → length d.v ≡ length I.customers → (k : ℕ) → IsRisen I path d (rounds I path customers d k)
    unfolding rounds
    rounds_are_risen d long zero = same_is_risen I path d
    rounds_are_risen d long (suc k) =
        let before = rounds_are_risen d long k in
        risen_again I path d (rounds I path customers d k) (round I path customers (rounds I path customers d k)) before
        (round_is_risen (rounds I path customers d k) (before.customers ∙ long))

    -- the ascent keeps all this, and leaves its customers blocked
    pub ascended_is_risen : (start result : Duals) → length start.v ≡ length I.customers → IsAscendedOver I path customers start result → IsRisen I path start result
    ascended_is_risen start result long asc =
        let seats : Duals = fold (seated I path) start customers in
        let first = seats_are_risen start long customers known in
        subst (λ f. IsRisen I path start f) (sym asc.after)
        (risen_again I path start seats (rounds I path customers seats asc.count) first (rounds_are_risen seats (first.customers ∙ long) asc.count))

    pub ascended_blocks : (start result : Duals) → length start.v ≡ length I.customers → IsAscendedOver I path customers start result → All (λ j. is_blocked I path result j ≡ true) customers
    ascended_blocks start result long asc = round_blocks result ((ascended_is_risen start result long asc).customers ∙ long) asc.settled

  module _ (customers : List ℕ) (d : Duals) where
    -- rounds after one that changes nothing change nothing
    rounds_stay : (k : ℕ) → round I path customers (rounds I path customers d k) ≡ rounds I path customers d k → (l : ℕ) → k ≤ l → rounds I path customers d l ≡ rounds I path customers d k
    unfolding rounds
    rounds_stay k fixed zero b = let same : zero ≡ k = omega arith in ap (rounds I path customers d) same
    rounds_stay k fixed (suc l) b =
        elim (cases_eq k (suc l)) [
          | inl same ↦ ap (rounds I path customers d) (sym same)
          | inr other ↦ ap (round I path customers) (rounds_stay k fixed l (omega (arith, other))) ∙ fixed
        ]

  -- the ascent has one result
  pub one_ascent : (customers : List ℕ) (start a b : Duals) → IsAscendedOver I path customers start a → IsAscendedOver I path customers start b → a ≡ b
  one_ascent customers start a b one two =
      let seats : Duals = fold (seated I path) start customers in
      let after : ℕ → Duals = rounds I path customers seats in
      let fixed_one : round I path customers (after one.count) ≡ after one.count = subst (λ f. round I path customers f ≡ f) one.after one.settled in
      let fixed_two : round I path customers (after two.count) ≡ after two.count = subst (λ f. round I path customers f ≡ f) two.after two.settled in
      elim (cases_order one.count two.count) [
        | inl same ↦ one.after ∙ ap after same ∙ sym two.after
        | inr other ↦ elim other [
          | inl before ↦ one.after ∙ sym (rounds_stay customers seats one.count fixed_one two.count (omega (arith, before))) ∙ sym two.after
          | inr later ↦ one.after ∙ rounds_stay customers seats two.count fixed_two one.count (omega (arith, later)) ∙ sym two.after
        ]
      ]

-- The turns in order are the customers by falling demand.
use Rattle.std.proofs.Common.{◌≡◌, ℕ, zero, suc, ◌+◌, ◌-◌, ◌<◌, ◌≤◌, Bool, true, false, cond, List, [], ◌∷◌, map, length, get_or, refl, sym, ap, subst, inl, inr, ◌⊎◌, ◌∙◌, arith}
use Rattle.std.specs.Prelude.{All, AllPairs, nat_lt, IsPermutation}
use Rattle.std.specs.List.{fold, range_with_len}
use Rattle.std.proofs.lemmas.Bool.{cases_eq, ltb-true, ltb-false}
use Rattle.std.proofs.lemmas.List.{length-map, get_or-map}
use Rattle.std.proofs.lemmas.List.Elements.{All-cons, All-head, All-tail, All-nil, All-weaker, All-map, Contains-get_or}
use Rattle.std.proofs.lemmas.List.Kept.{AllPairs-cons}
use Rattle.std.proofs.lemmas.List.Sorted.{All-permutation, Contains-permutation, IsPermutation-map, IsPermutation-sym, ranks_by, sorted_far}
use Rattle.location_terms.specs.Instance.{Instance, IsValid, customer_at}
use Rattle.location_terms.proofs.Table.{pair_cmp-total}
use Rattle.location_terms.specs.declared.limits.TheConstants.{MAX_AMOUNT}
use Rattle.std.specs.Ordering.{is_lt}
use Rattle.lane_order.proofs.Ranked.{after}
use Rattle.dual_ascent.specs.Levels.{customer_places}
use Rattle.plan_search.specs.Packed.{queued, by_falling_demand}
use Rattle.plan_search.specs.Turns.{turn_of, first_turns, turn_cmp, AreTurns}
use Rattle.plan_search.specs.declared.turns.Turn.{Turn}
use Rattle.plan_search.proofs.Among.{of_places}
use Rattle.plan_search.proofs.Queue.{queued_moves, turns_move, moved_apart}
use Rattle.plan_search.proofs.Ordered.{same_order, tail_pairs, head_before}

module _ (I : Instance) where
  abbrev demand : ℕ → ℕ
  demand j = (customer_at I j).demand

  -- the customer at i has its turn before the one at j
  abbrev pub TakesBefore : ℕ → ℕ → Type 0
  TakesBefore i j = (demand j < demand i) ⊎ ((demand i ≡ demand j) × (i < j))

  pub one_way : (i j : ℕ) → TakesBefore i j → TakesBefore j i → ⊥
  one_way i j (inl more) (inl less) = omega arith
  one_way i j (inl more) (inr tie) = omega (arith, more, tie.0)
  one_way i j (inr tie) (inl less) = omega (arith, less, tie.0)
  one_way i j (inr tie) (inr back) = omega (arith, tie.1, back.1)

  no_less : (i j : ℕ) → TakesBefore i j → demand j ≤ demand i
  no_less i j (inl more) = omega arith
  no_less i j (inr tie) = omega (arith, tie.0)

  tied : (k j : ℕ) → k < j → demand j ≤ demand k → TakesBefore k j
  tied k j before least = elim (cases_eq (demand k) (demand j)) [ inl same ↦ inr (same, before) | inr other ↦ inl (omega (arith, least, other)) ]

  -- one more in its place
  queued_in_order : (ks : List ℕ) (j : ℕ) → AllPairs TakesBefore ks → All (λ k. k < j) ks → AllPairs TakesBefore (queued I ks j)
  queued_in_order [] j pairs below = AllPairs-cons TakesBefore j [] (All-nil (TakesBefore j)) pairs
  queued_in_order (k ∷ ks) j pairs below = by (nat_lt (demand k) (demand j)) refl (queued_in_order ks j (tail_pairs TakesBefore one_way k ks pairs) (All-tail (λ i. i < j) k ks below))
    where
      by : (b : Bool) → nat_lt (demand k) (demand j) ≡ b → AllPairs TakesBefore (queued I ks j) → AllPairs TakesBefore (cond b (j ∷ k ∷ ks) (k ∷ queued I ks j))
      by true less rest =
          AllPairs-cons TakesBefore j (k ∷ ks)
          (All-cons (TakesBefore j) k ks (inl (ltb-true _ _ less)) (λ m d b. let low : demand (get_or ks m d) ≤ demand k = no_less k (get_or ks m d) (head_before TakesBefore one_way k ks pairs (get_or ks m d) (Contains-get_or ks m d b)) in inl (omega (arith, low, ltb-true _ _ less))))
          pairs
      by false no_more rest =
          AllPairs-cons TakesBefore k (queued I ks j)
          (All-permutation (TakesBefore k) (j ∷ ks) (queued I ks j) (queued_moves I ks j)
          (All-cons (TakesBefore k) j ks (tied k j (All-head (λ i. i < j) k ks below) (ltb-false _ _ no_more)) (λ m d b. head_before TakesBefore one_way k ks pairs (get_or ks m d) (Contains-get_or ks m d b)))) rest

  queue_in_order : (n a : ℕ) (ks : List ℕ) → AllPairs TakesBefore ks → All (λ k. k < a) ks → AllPairs TakesBefore (fold (queued I) ks (range_with_len a n))
  queue_in_order zero a ks pairs below = pairs
  queue_in_order (suc n) a ks pairs below =
      queue_in_order n (a + 1) (queued I ks a) (queued_in_order ks a pairs below)
      (All-permutation (λ k. k < a + 1) (a ∷ ks) (queued I ks a) (queued_moves I ks a) (All-cons (λ k. k < a + 1) a ks (omega arith) (All-weaker (λ k. k < a) (λ k. k < a + 1) (λ k low. omega (arith, low)) ks below)))

  by_falling_demand_in_order : AllPairs TakesBefore (by_falling_demand I)
  by_falling_demand_in_order = queue_in_order (length I.customers) 0 [] (λ i j d before b. absurd (omega (arith, b))) (All-nil (λ k. k < 0))

  module _ (valid : IsValid I) (turns : List Turn) (are : AreTurns I turns) where
    abbrev customers : List ℕ
    customers = map (λ t. t.cust) turns

    -- a turn is that of a customer of the instance
    record IsTurn (t : Turn) : Type 0 where
      short : t.short ≡ MAX_AMOUNT - demand t.cust
      below : t.cust < length I.customers

    all_turns : All IsTurn turns
    all_turns =
        All-permutation IsTurn (first_turns I (length I.customers)) turns are.all
        (All-map IsTurn (turn_of I) (customer_places I) (of_places (λ j. IsTurn (turn_of I j)) (length I.customers) (λ j b. record { short = refl; below = b })))

    places_again : (js : List ℕ) → map (λ t. t.cust) (map (turn_of I) js) ≡ js
    places_again [] = refl
    places_again (j ∷ js) = ap (λ xs. j ∷ xs) (places_again js)

    customers_move : IsPermutation (customer_places I) customers
    customers_move = subst (λ xs. IsPermutation xs customers) (places_again (customer_places I)) (IsPermutation-map (λ t. t.cust) (first_turns I (length I.customers)) turns are.all)

    no_turn : Turn
    no_turn = record { short = 0; cust = 0 }

    not_less : (i k : ℕ) → i < k → k < length turns → is_lt (turn_cmp (get_or turns k no_turn) (get_or turns i no_turn)) ≡ false
    not_less i k before b = sorted_far (λ x y. is_lt (turn_cmp x y)) (ranks_by pair_cmp-total (λ (t : Turn). (t.short, t.cust))) turns are.sorted i k no_turn (omega arith) b

    customers_in_order : AllPairs TakesBefore customers
    customers_in_order i k d before b =
        let within : k < length turns = omega (arith, b, length-map turns (λ t. t.cust)) in
        let s : Turn = get_or turns i no_turn in
        let t : Turn = get_or turns k no_turn in
        let at_i : get_or customers i d ≡ s.cust = get_or-map (λ u. u.cust) turns i no_turn d (omega arith) in
        let at_k : get_or customers k d ≡ t.cust = get_or-map (λ u. u.cust) turns k no_turn d within in
        let apart : s.cust ≡ t.cust → ⊥ = λ e. moved_apart I customers customers_move i k d before b (at_i ∙ e ∙ sym at_k) in
        let first : IsTurn s = all_turns i no_turn (omega arith) in
        let second : IsTurn t = all_turns k no_turn within in
        let small : demand s.cust ≤ MAX_AMOUNT = valid.demands_small s.cust _ first.below in
        let ordered : TakesBefore s.cust t.cust = turned s t first second small (valid.demands_small t.cust _ second.below) (after s.short t.short s.cust t.cust (not_less i k before within) apart) in
        subst (λ (p : ℕ × ℕ). TakesBefore p.0 p.1) (λ n. (sym at_i n, sym at_k n)) ordered
      where
        turned : (s t : Turn) → IsTurn s → IsTurn t → demand s.cust ≤ MAX_AMOUNT → demand t.cust ≤ MAX_AMOUNT → (s.short < t.short) ⊎ ((s.short ≡ t.short) × (s.cust < t.cust)) → TakesBefore s.cust t.cust
        turned s t first second small small_too (inl less) = inl (omega (arith, less, first.short, second.short, small))
        turned s t first second small small_too (inr tie) = inr (omega (arith, tie.0, first.short, second.short, small, small_too), tie.1)

    pub turns_are : customers ≡ by_falling_demand I
    turns_are =
        same_order TakesBefore one_way customers (by_falling_demand I) customers_in_order by_falling_demand_in_order
        (λ j c. Contains-permutation (customer_places I) (by_falling_demand I) j (turns_move I) (Contains-permutation customers (customer_places I) j (IsPermutation-sym (customer_places I) customers customers_move) c))
        (λ j c. Contains-permutation (customer_places I) customers j customers_move (Contains-permutation (by_falling_demand I) (customer_places I) j (IsPermutation-sym (customer_places I) (by_falling_demand I) (turns_move I)) c))

    pub turn_below : All (λ t. t.cust < length I.customers) turns
    turn_below = All-weaker IsTurn (λ t. t.cust < length I.customers) (λ t is. is.below) turns all_turns

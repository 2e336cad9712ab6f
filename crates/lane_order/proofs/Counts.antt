-- How many lanes to a customer cost at most so much: the first so many.
use Rattle.std.proofs.Common.{◌≡◌, ◌↔◌, ◌⊎◌, ℕ, zero, suc, ◌+◌, ◌<◌, ◌≤◌, Bool, true, false, cond, inl, inr, List, [], ◌∷◌, length, AllPairs, get_or, nat_lt, nat_le, ap, subst, ◌∙◌, arith}
use Rattle.std.proofs.lemmas.Bool.{cases_lt, cases_order, ltb-true, ltb-false, le-leb, lt-leb}
use Rattle.std.proofs.lemmas.List.Sums.{sum_by-cons, prefix_len-le-length, fails_before_first, passes_at_first}
use Rattle.std.specs.Prelude.{count_by, not}
use Rattle.std.specs.List.{AllWithin, position_or_len}
use Rattle.lane_order.specs.Order.{IsBefore}

-- where the first n elements pass and the others fail, n pass
passes_counted : {X : Type 0} (p : X → Bool) (xs : List X) (n : ℕ) → n ≤ length xs → AllWithin (λ x. p x ≡ true) xs 0 n → AllWithin (λ x. p x ≡ false) xs n (length xs) → count_by p xs ≡ n
passes_counted p [] n bound low high = omega (arith, bound)
passes_counted p (x ∷ xs) zero bound low high =
    let here : count_by p (x ∷ xs) ≡ 0 + count_by p xs = sum_by-cons (λ y. cond (p y) 1 0) x xs ∙ ap (λ b. cond b 1 0 + count_by p xs) (high 0 x (omega arith) (omega arith)) in
    omega (arith, here, passes_counted p xs zero (omega arith) (λ k d least below. absurd (omega (arith, below))) (λ k d least below. high (suc k) d (omega arith) (omega (arith, below))))
passes_counted p (x ∷ xs) (suc n) bound low high =
    let here : count_by p (x ∷ xs) ≡ 1 + count_by p xs = sum_by-cons (λ y. cond (p y) 1 0) x xs ∙ ap (λ b. cond b 1 0 + count_by p xs) (low 0 x (omega arith) (omega arith)) in
    omega (arith, here, passes_counted p xs n (omega (arith, bound)) (λ k d least below. low (suc k) d (omega arith) (omega (arith, below))) (λ k d least below. high (suc k) d (omega (arith, least)) (omega (arith, below))))

module _ (lanes : List (ℕ × ℕ)) (ascending : AllPairs IsBefore lanes) (v : ℕ) where
  abbrev first_above : ℕ
  first_above = position_or_len (λ l. nat_lt v l.0) lanes

  bounded : first_above ≤ length lanes
  bounded = prefix_len-le-length (λ l. not (nat_lt v l.0)) lanes

  low : (k : ℕ) (d : ℕ × ℕ) → k < first_above → (get_or lanes k d).0 ≤ v
  low k d below = ltb-false v (get_or lanes k d).0 (fails_before_first (λ l. nat_lt v l.0) lanes k d below)

  high : (k : ℕ) (d : ℕ × ℕ) → first_above ≤ k → k < length lanes → v < (get_or lanes k d).0
  high k d past within =
      let top : v < (get_or lanes first_above d).0 = ltb-true v (get_or lanes first_above d).0 (passes_at_first (λ l. nat_lt v l.0) lanes d (omega (arith, past, within))) in
      elim (cases_order first_above k) [
        | inl same ↦ subst (λ n. v < (get_or lanes n d).0) same top
        | inr other ↦ elim other [
          | inl before ↦ elim (ascending first_above k d before within) [ inl less ↦ omega (arith, less, top) | inr tie ↦ omega (arith, tie.0, top) ]
          | inr after ↦ absurd (omega (arith, after, past))
        ]
      ]

  count_is : count_by (λ l. nat_le l.0 v) lanes ≡ first_above
  count_is =
      passes_counted (λ l. nat_le l.0 v) lanes first_above bounded (λ k d least below. le-leb (get_or lanes k d).0 v (low k d below))
      (λ k d past within. lt-leb (get_or lanes k d).0 v (high k d past within))

  -- the lanes that cost at most v are the first so many, as many as there are
  pub first_ones_cost_less : (k : ℕ) (d : ℕ × ℕ) → k < length lanes → (k < count_by (λ l. nat_le l.0 v) lanes) ↔ ((get_or lanes k d).0 ≤ v)
  first_ones_cost_less k d within = (λ below. low k d (omega (arith, below, count_is)), λ cheap. early (cases_lt k first_above) cheap)
    where
      early : (k < first_above) ⊎ (first_above ≤ k) → (get_or lanes k d).0 ≤ v → k < count_by (λ l. nat_le l.0 v) lanes
      early (inl below) cheap = omega (arith, below, count_is)
      early (inr past) cheap = absurd (omega (arith, cheap, high k d past within))

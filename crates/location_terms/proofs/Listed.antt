-- Sums over a list, scaled, as totals over its places.
use Rattle.std.proofs.Common.{◌≡◌, ℕ, ◌*◌, ◌+◌, ◌≤◌, zero, suc, ap, arith, add-one, Bool, true, false, cond, List, [], ◌∷◌, ◌++◌, ◌∙◌, length, take, get_or, ℤ, pos, ◌+ℤ◌}
use Rattle.std.specs.Prelude.{sum_by, filter}
use Rattle.std.proofs.lemmas.Int.{ints}
use Rattle.std.proofs.lemmas.List.{take_all, append-nil}
use Rattle.std.proofs.lemmas.List.Elements.{filter_more}
use Rattle.std.proofs.lemmas.List.Sums.{sum_by_more, sum_by_push}
use Rattle.location_terms.specs.Bound.{total}

-- the last term of a scaled total of those that pass
scaled_last : (q s t : ℕ) (z : ℤ) (b : Bool) (n : ℕ) → q * s ≡ q * (t + cond b n 0) → z ≡ pos (q * t) → z +ℤ cond b (pos (q * n)) (pos 0) ≡ pos (q * s)
scaled_last q s t z true n more before = omega (arith, ints)
scaled_last q s t z false n more before = omega (arith, ints)

module _ {X : Type 0} (q : ℕ) (f : X → ℕ) (xs : List X) (d : X) where
  sum_of_first : (n : ℕ) → n ≤ length xs → total (λ k. pos (q * f (get_or xs k d))) n ≡ pos (q * sum_by f (take n xs))
  unfolding total
  sum_of_first zero h = omega (arith, ints)
  sum_of_first (suc n) h =
      let more : sum_by f (take (suc n) xs) ≡ sum_by f (take n xs) + f (get_or xs n d) = rw add-one at (sum_by_more f xs n d (omega arith)) in
      omega (arith, ints, sum_of_first n (omega arith), ap (λ s. q * s) more)

  pub total-sum_by : total (λ k. pos (q * f (get_or xs k d))) (length xs) ≡ pos (q * sum_by f xs)
  total-sum_by = let whole : take (length xs) xs ≡ xs = take_all (length xs) xs (omega arith) in rw whole at (sum_of_first (length xs) (omega arith))

  -- what one element more adds to the sum of those that pass
  sum_with_last : (ys : List X) (b : Bool) (x : X) → sum_by f (ys ++ cond b (x ∷ []) []) ≡ sum_by f ys + cond b (f x) 0
  sum_with_last ys true x = omega (arith, sum_by_push f ys x)
  sum_with_last ys false x = omega (arith, ap (sum_by f) (append-nil ys))

  module _ (p : X → Bool) where
    kept_of_first : (n : ℕ) → n ≤ length xs → total (λ k. cond (p (get_or xs k d)) (pos (q * f (get_or xs k d))) (pos 0)) n ≡ pos (q * sum_by f (filter p (take n xs)))
    unfolding total
    kept_of_first zero h = omega (arith, ints)
    kept_of_first (suc n) h =
        let x : X = get_or xs n d in
        let longer : filter p (take (suc n) xs) ≡ filter p (take n xs) ++ cond (p x) (x ∷ []) [] = rw add-one at (filter_more p xs n d (omega arith)) in
        let more : sum_by f (filter p (take (suc n) xs)) ≡ sum_by f (filter p (take n xs)) + cond (p x) (f x) 0 = ap (sum_by f) longer ∙ sum_with_last (filter p (take n xs)) (p x) x in
        let scaled : q * sum_by f (filter p (take (suc n) xs)) ≡ q * (sum_by f (filter p (take n xs)) + cond (p x) (f x) 0) = ap (λ s. q * s) more in
        let before : total (λ k. cond (p (get_or xs k d)) (pos (q * f (get_or xs k d))) (pos 0)) n ≡ pos (q * sum_by f (filter p (take n xs))) = kept_of_first n (omega arith) in
        scaled_last q _ (sum_by f (filter p (take n xs))) _ (p x) (f x) scaled before

    pub total-filter : total (λ k. cond (p (get_or xs k d)) (pos (q * f (get_or xs k d))) (pos 0)) (length xs) ≡ pos (q * sum_by f (filter p xs))
    total-filter = let whole : take (length xs) xs ≡ xs = take_all (length xs) xs (omega arith) in rw whole at (kept_of_first (length xs) (omega arith))

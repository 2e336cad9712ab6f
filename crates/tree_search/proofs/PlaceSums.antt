-- Sums over places, scaled, compared with totals of integers.
use Rattle.std.proofs.Common.{◌≡◌, ℕ, ◌*◌, ◌<◌, ap, subst, ◌∙◌, zero-add, arith, Bool, cond, length, get_or, ℤ, pos, ◌≤ℤ◌}
use Rattle.std.specs.Prelude.{sum_by, filter}
use Rattle.std.specs.List.{range_with_len}
use Rattle.std.proofs.lemmas.Int.{ints}
use Rattle.std.proofs.lemmas.List.FromFn.{get_or-range_with_len, length-range_with_len}
use Rattle.location_terms.specs.Bound.{total}
use Rattle.location_terms.proofs.Totals.{total_le, total_same}
use Rattle.location_terms.proofs.Listed.{total-sum_by, total-filter}

module _ (q : ℕ) (f : ℕ → ℕ) (n : ℕ) where
  place_is : (k : ℕ) → k < n → get_or (range_with_len 0 n) k 0 ≡ k
  place_is k b = get_or-range_with_len 0 n k 0 b ∙ zero-add k

  -- a scaled sum over the places below n as a total
  pub sum_is_total : total (λ k. pos (q * f k)) n ≡ pos (q * sum_by f (range_with_len 0 n))
  sum_is_total =
      let h : ℕ → ℤ = λ k. pos (q * f (get_or (range_with_len 0 n) k 0)) in
      let all : total h (length (range_with_len 0 n)) ≡ pos (q * sum_by f (range_with_len 0 n)) = total-sum_by q f (range_with_len 0 n) 0 in
      total_same (λ k. pos (q * f k)) h n (λ k b. ap (λ i. pos (q * f i)) (sym_place k b))
      ∙ subst (λ m. total h m ≡ pos (q * sum_by f (range_with_len 0 n))) (length-range_with_len 0 n) all
    where
      sym_place : (k : ℕ) → k < n → k ≡ get_or (range_with_len 0 n) k 0
      sym_place k b = omega (arith, place_is k b)

  -- and one over those that pass a test
  pub kept_is_total : (p : ℕ → Bool) → total (λ k. cond (p k) (pos (q * f k)) (pos 0)) n ≡ pos (q * sum_by f (filter p (range_with_len 0 n)))
  kept_is_total p =
      let h : ℕ → ℤ = λ k. cond (p (get_or (range_with_len 0 n) k 0)) (pos (q * f (get_or (range_with_len 0 n) k 0))) (pos 0) in
      let all : total h (length (range_with_len 0 n)) ≡ pos (q * sum_by f (filter p (range_with_len 0 n))) = total-filter q f (range_with_len 0 n) 0 p in
      total_same (λ k. cond (p k) (pos (q * f k)) (pos 0)) h n (λ k b. ap (λ i. cond (p i) (pos (q * f i)) (pos 0)) (sym_place k b))
      ∙ subst (λ m. total h m ≡ pos (q * sum_by f (filter p (range_with_len 0 n)))) (length-range_with_len 0 n) all
    where
      sym_place : (k : ℕ) → k < n → k ≡ get_or (range_with_len 0 n) k 0
      sym_place k b = omega (arith, place_is k b)

  module _ (g : ℕ → ℤ) where
    -- a scaled sum is at most a total, where each of its terms is
    pub sum_at_most : ((k : ℕ) → k < n → pos (q * f k) ≤ℤ g k) → pos (q * sum_by f (range_with_len 0 n)) ≤ℤ total g n
    sum_at_most each = let less = total_le (λ k. pos (q * f k)) g n each in omega (arith, ints, sum_is_total, less)

    pub kept_at_most : (p : ℕ → Bool) → ((k : ℕ) → k < n → cond (p k) (pos (q * f k)) (pos 0) ≤ℤ g k) → pos (q * sum_by f (filter p (range_with_len 0 n))) ≤ℤ total g n
    kept_at_most p each = let less = total_le (λ k. cond (p k) (pos (q * f k)) (pos 0)) g n each in omega (arith, ints, kept_is_total p, less)

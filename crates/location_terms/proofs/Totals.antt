-- Totals of integers over the places below a number.
use Rattle.std.proofs.Common.{◌≡◌, ◌≢◌, ℕ, ◌*◌, ◌<◌, zero, suc, refl, ap, ◌∙◌, Bool, true, cond, inl, inr, arith, ℤ, pos, negsuc, ◌+ℤ◌, ◌-ℤ◌, ◌≤ℤ◌}
use Rattle.std.proofs.lemmas.Int.{ints}
use Rattle.std.proofs.lemmas.Bool.{cases_eq, cond-true, cond-false, false_from_ne_true}
use Rattle.location_terms.specs.Bound.{total}

-- terms that agree have one total
pub total_same : (f g : ℕ → ℤ) (n : ℕ) → ((i : ℕ) → i < n → f i ≡ g i) → total f n ≡ total g n
unfolding total
total_same f g zero h = refl
total_same f g (suc n) h = omega (arith, ints, total_same f g n (λ i b. h i (omega arith)), h n (omega arith))

-- terms that are no greater have no greater total
pub total_le : (f g : ℕ → ℤ) (n : ℕ) → ((i : ℕ) → i < n → f i ≤ℤ g i) → total f n ≤ℤ total g n
unfolding total
total_le f g zero h = omega (arith, ints)
total_le f g (suc n) h = omega (arith, ints, total_le f g n (λ i b. h i (omega arith)), h n (omega arith))

pub total_plus : (f g : ℕ → ℤ) (n : ℕ) → total (λ i. f i +ℤ g i) n ≡ total f n +ℤ total g n
unfolding total
total_plus f g zero = refl
total_plus f g (suc n) = omega (arith, ints, total_plus f g n)

pub total_zero : (f : ℕ → ℤ) (n : ℕ) → ((i : ℕ) → i < n → f i ≡ pos 0) → total f n ≡ pos 0
unfolding total
total_zero f zero h = refl
total_zero f (suc n) h = omega (arith, ints, total_zero f n (λ i b. h i (omega arith)), h n (omega arith))

-- a total with one term that is not 0 is that term
pub total_one : (f : ℕ → ℤ) (n k : ℕ) → k < n → ((i : ℕ) → i < n → i ≢ k → f i ≡ pos 0) → total f n ≡ f k
unfolding total
total_one f zero k b h = absurd (omega arith)
total_one f (suc n) k b h =
    elim (cases_eq k n) [
      | inl e ↦ omega (arith, ints, total_zero f n (λ i c. h i (omega arith) (omega arith)), ap f e)
      | inr other ↦ omega (arith, ints, total_one f n k (omega arith) (λ i c ne. h i (omega arith) ne), h n (omega arith) (λ e. other (omega arith)))
    ]

-- a total of what one place alone is tested for is the term at that place
pub total_at : (f : ℕ → ℤ) (test : ℕ → Bool) (n k : ℕ) → k < n → test k ≡ true → ((i : ℕ) → i < n → test i ≡ true → i ≡ k) → total (λ i. cond (test i) (f i) (pos 0)) n ≡ f k
total_at f test n k b passes alone =
    total_one (λ i. cond (test i) (f i) (pos 0)) n k b (λ i c other. cond-false (test i) (f i) (pos 0) (false_from_ne_true (test i) (λ t. other (alone i c t))))
    ∙ cond-true (test k) (f k) (pos 0) passes

-- and of what no place is tested for it is 0
pub total_nowhere : (f : ℕ → ℤ) (test : ℕ → Bool) (n : ℕ) → ((i : ℕ) → i < n → test i ≡ true → ⊥) → total (λ i. cond (test i) (f i) (pos 0)) n ≡ pos 0
total_nowhere f test n fails =
    total_zero (λ i. cond (test i) (f i) (pos 0)) n (λ i b. cond-false (test i) (f i) (pos 0) (false_from_ne_true (test i) (fails i b)))

-- the rows of a table and its columns have one total
pub total_swap : (f : ℕ → ℕ → ℤ) (m n : ℕ) → total (λ i. total (f i) n) m ≡ total (λ j. total (λ i. f i j) m) n
unfolding total
total_swap f zero n = omega (arith, ints, total_zero (λ j. pos 0) n (λ _ _. refl))
total_swap f (suc m) n = omega (arith, ints, total_swap f m n, total_plus (λ j. total (λ i. f i j) m) (f m) n)

pub total_minus : (f g : ℕ → ℤ) (n : ℕ) → total (λ i. f i -ℤ g i) n ≡ total f n -ℤ total g n
unfolding total
total_minus f g zero = omega (arith, ints)
total_minus f g (suc n) = omega (arith, ints, total_minus f g n)

-- a term of a total of terms from 0 up is within it
pub total_part : (f : ℕ → ℤ) (n k : ℕ) → k < n → ((i : ℕ) → i < n → pos 0 ≤ℤ f i) → f k ≤ℤ total f n
unfolding total
total_part f zero k b h = absurd (omega arith)
total_part f (suc n) k b h =
    elim (cases_eq k n) [
      | inl e ↦ let low = total_le (λ _. pos 0) f n (λ i c. h i (omega arith)) in omega (arith, ints, low, total_zero (λ _. pos 0) n (λ _ _. refl), ap f e)
      | inr other ↦ omega (arith, ints, total_part f n k (omega arith) (λ i c. h i (omega arith)), h n (omega arith))
    ]

-- one price, paid n times
pub total_price : (p n : ℕ) → total (λ _. pos p) n ≡ pos (p * n)
unfolding total
total_price p zero = omega (arith, ints)
total_price p (suc n) = omega (arith, ints, total_price p n)

-- and one price below 0
pub total_refund : (p n : ℕ) → total (λ _. negsuc p) n +ℤ pos (suc p * n) ≡ pos 0
unfolding total
total_refund p zero = omega (arith, ints)
total_refund p (suc n) = omega (arith, ints, total_refund p n)

-- Bounds of boxes at two scales, compared.
use Rattle.std.proofs.Common.{◌≡◌, ℕ, zero, suc, ◌*◌, ◌≤◌, sym, ap, ◌∙◌, arith, ℤ, pos, negsuc, neg_ℤ, ◌≤ℤ◌, ◌<ℤ◌}
use Rattle.std.specs.Prelude.{◌*ℤ◌}
use Rattle.std.proofs.lemmas.Int.{by_lt_z, ints}
use Rattle.dual_value.specs.Scales.{IsAtLeast, IsGreater}
use Rattle.dual_value.proofs.Sizes.{le_times}

-- a factor above 0 can be taken off
pub times_le : (n : ℕ) (x y : ℤ) → 1 ≤ n → (pos n *ℤ x) ≤ℤ (pos n *ℤ y) → x ≤ℤ y
times_le zero x y some h = absurd (omega (arith, some))
times_le (suc n) x y some h = by_lt_z y x (λ more. let low = le_times n y x (omega (arith, ints, more)) in absurd (omega (arith, ints, h, more, low))) (λ less. less)

below_zero : (m n : ℕ) → (pos m *ℤ negsuc n) ≡ neg_ℤ (pos (m * suc n))
below_zero m n = omega (arith, ints)

times_below : (k p : ℕ) → (pos k *ℤ neg_ℤ (pos p)) ≡ neg_ℤ (pos (k * p))
times_below k zero = omega (arith, ints)
times_below k (suc p) = omega (arith, ints)

orders : (k m n : ℕ) → k * (m * n) ≡ m * (k * n)
orders k m n = omega arith

pub exchanged : (k m : ℕ) (a : ℤ) → (pos k *ℤ (pos m *ℤ a)) ≡ (pos m *ℤ (pos k *ℤ a))
exchanged k m (pos n) = omega (arith, ints)
exchanged k m (negsuc n) = rw (below_zero m n) (rw (below_zero k n) (times_below k (m * suc n) ∙ ap (λ p. neg_ℤ (pos p)) (orders k m (suc n)) ∙ sym (times_below m (k * suc n))))

pub at_least_trans : (a b c : ℤ) (p q r : ℕ) → 1 ≤ q → IsAtLeast a p b q → IsAtLeast b q c r → IsAtLeast a p c r
at_least_trans a b c p q r some one two =
    let first : (pos r *ℤ (pos p *ℤ b)) ≤ℤ (pos r *ℤ (pos q *ℤ a)) = le_times r _ _ one in
    let second : (pos p *ℤ (pos q *ℤ c)) ≤ℤ (pos p *ℤ (pos r *ℤ b)) = le_times p _ _ two in
    times_le q (pos p *ℤ c) (pos r *ℤ a) some (omega (arith, ints, first, second, exchanged q p c, exchanged p r b, exchanged r q a))

pub same_at_least : (a b : ℤ) (q : ℕ) → b ≤ℤ a → IsAtLeast a q b q
same_at_least a b q h = le_times q b a h

pub same_greater : (a b : ℤ) (q : ℕ) → 1 ≤ q → b <ℤ a → IsGreater a q b q
same_greater a b zero some h = absurd (omega (arith, some))
same_greater a b (suc n) some h = let low = le_times n b a (omega (arith, ints, h)) in omega (arith, ints, h, low)

pub greater_is_at_least : (a c : ℤ) (p r : ℕ) → IsGreater a p c r → IsAtLeast a p c r
greater_is_at_least a c p r h = omega (arith, ints, h)

pub not_greater : (a c : ℤ) (p r : ℕ) → (IsGreater a p c r → ⊥) → IsAtLeast c r a p
not_greater a c p r fails = by_lt_z (pos p *ℤ c) (pos r *ℤ a) (λ more. absurd (fails more)) (λ less. less)

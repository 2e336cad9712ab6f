-- Sizes of integers and of their totals.
use Rattle.std.proofs.Common.{◌≡◌, ℕ, zero, suc, ◌+◌, ◌*◌, ◌^◌, ◌<◌, ◌≤◌, refl, ap, ◌∙◌, arith, add-one, true, ℤ, pos, negsuc, ◌+ℤ◌, ◌-ℤ◌, ◌*ℤ◌, ◌≤ℤ◌}
use Rattle.std.specs.Int.RustNames.{unsigned_abs, FitsSigned}
use mir.Syntax.{w128}
use mir.Val.{to_z, of_z}
use Rattle.std.specs.Int.Signed.{le_z, le_z_yes}
use Rattle.std.proofs.lemmas.Float.{T_from_true}
use Rattle.std.proofs.lemmas.Int.{ints, fits_signed_from_abs, to_z-of_z}
use Rattle.location_terms.specs.Bound.{total}

-- an order is that of multiples
pub le_times : (n : ℕ) (x y : ℤ) → x ≤ℤ y → (pos n *ℤ x) ≤ℤ (pos n *ℤ y)
le_times zero x y h = omega (arith, ints)
le_times (suc n) x y h = omega (arith, ints, h, le_times n x y h)

pub abs_below : (z : ℤ) (n : ℕ) → unsigned_abs z ≤ n → z ≤ℤ pos n
abs_below (pos m) n h = omega (arith, ints)
abs_below (negsuc m) n h = omega (arith, ints)

pub abs_above : (z : ℤ) (n : ℕ) → unsigned_abs z ≤ n → pos 0 ≤ℤ (z +ℤ pos n)
abs_above (pos m) n h = omega (arith, ints)
abs_above (negsuc m) n h = omega (arith, ints)

pub abs_from : (z : ℤ) (n : ℕ) → z ≤ℤ pos n → pos 0 ≤ℤ (z +ℤ pos n) → unsigned_abs z ≤ n
abs_from (pos m) n h k = omega (arith, ints)
abs_from (negsuc m) n h k = omega (arith, ints)

pub size_pos : (z : ℤ) (x n : ℕ) → z ≡ pos x → x ≤ n → unsigned_abs z ≤ n
size_pos z x n e h = abs_from z n (omega (arith, ints)) (omega (arith, ints))

pub size-plus : (a b : ℤ) (m n : ℕ) → unsigned_abs a ≤ m → unsigned_abs b ≤ n → unsigned_abs (a +ℤ b) ≤ m + n
size-plus a b m n h k =
    let a_below = abs_below a m h in
    let a_above = abs_above a m h in
    let b_below = abs_below b n k in
    let b_above = abs_above b n k in
    abs_from (a +ℤ b) (m + n) (omega (arith, ints)) (omega (arith, ints))

pub size-minus : (a b : ℤ) (m n : ℕ) → unsigned_abs a ≤ m → unsigned_abs b ≤ n → unsigned_abs (a -ℤ b) ≤ m + n
size-minus a b m n h k =
    let a_below = abs_below a m h in
    let a_above = abs_above a m h in
    let b_below = abs_below b n k in
    let b_above = abs_above b n k in
    abs_from (a -ℤ b) (m + n) (omega (arith, ints)) (omega (arith, ints))

-- a number whose size is below 2 ^ 127 fits, and is what its bits give
pub fits_size : (z : ℤ) (n : ℕ) → unsigned_abs z ≤ n → n < 2 ^ 127 → FitsSigned w128 z
fits_size z n h small = fits_signed_from_abs w128 z (omega arith)

pub kept : (z : ℤ) (n : ℕ) → unsigned_abs z ≤ n → n < 2 ^ 127 → to_z w128 (of_z w128 z) ≡ z
kept z n h small = to_z-of_z w128 z (fits_size z n h small)

-- a total from its first term on
pub total_none : (f : ℕ → ℤ) → total f 0 ≡ pos 0
unfolding total
total_none f = refl

pub total_more : (f : ℕ → ℤ) (n : ℕ) → total f (n + 1) ≡ total f n +ℤ f n
unfolding total
total_more f n = rw add-one refl

-- the sum that the code makes of two numbers
pub sum_kept : (a b : ℤ) (m n : ℕ) → unsigned_abs a ≤ m → unsigned_abs b ≤ n → m + n < 2 ^ 127 → to_z w128 (of_z w128 (to_z w128 (of_z w128 a) +ℤ to_z w128 (of_z w128 b))) ≡ a +ℤ b
sum_kept a b m n h k small = rw (kept a m h (omega arith), kept b n k (omega arith)) (kept (a +ℤ b) (m + n) (size-plus a b m n h k) small)

pub sum_fits : (a b : ℤ) (m n : ℕ) → unsigned_abs a ≤ m → unsigned_abs b ≤ n → m + n < 2 ^ 127 → FitsSigned w128 (to_z w128 (of_z w128 a) +ℤ to_z w128 (of_z w128 b))
sum_fits a b m n h k small = rw (kept a m h (omega arith), kept b n k (omega arith)) (fits_size (a +ℤ b) (m + n) (size-plus a b m n h k) small)

pub difference_kept : (a b : ℤ) (m n : ℕ) → unsigned_abs a ≤ m → unsigned_abs b ≤ n → m + n < 2 ^ 127 → to_z w128 (of_z w128 (to_z w128 (of_z w128 a) -ℤ to_z w128 (of_z w128 b))) ≡ a -ℤ b
difference_kept a b m n h k small = rw (kept a m h (omega arith), kept b n k (omega arith)) (kept (a -ℤ b) (m + n) (size-minus a b m n h k) small)

pub difference_fits : (a b : ℤ) (m n : ℕ) → unsigned_abs a ≤ m → unsigned_abs b ≤ n → m + n < 2 ^ 127 → FitsSigned w128 (to_z w128 (of_z w128 a) -ℤ to_z w128 (of_z w128 b))
difference_fits a b m n h k small = rw (kept a m h (omega arith), kept b n k (omega arith)) (fits_size (a -ℤ b) (m + n) (size-minus a b m n h k) small)

pub difference_kept_to : (a b c : ℤ) (m n : ℕ) → unsigned_abs a ≤ m → unsigned_abs b ≤ n → m + n < 2 ^ 127 → b ≡ c → to_z w128 (of_z w128 (to_z w128 (of_z w128 a) -ℤ to_z w128 (of_z w128 b))) ≡ a -ℤ c
difference_kept_to a b c m n h k small same = difference_kept a b m n h k small ∙ ap (λ x. a -ℤ x) same

-- an order that the code finds
pub order_kept : (a b : ℤ) (m n : ℕ) → unsigned_abs a ≤ m → unsigned_abs b ≤ n → m + n < 2 ^ 127 → le_z (to_z w128 (of_z w128 a)) (to_z w128 (of_z w128 b)) ≡ true → a ≤ℤ b
order_kept a b m n h k small order =
    let found : to_z w128 (of_z w128 a) ≤ℤ to_z w128 (of_z w128 b) = le_z_yes (T_from_true _ order) in
    rw (kept a m h (omega arith), kept b n k (omega arith)) at found

-- one step of a running total, and its size
pub total_step : (f : ℕ → ℤ) (i lim : ℕ) (a b : ℤ) → a ≡ total f i → unsigned_abs a ≤ i * lim → b ≡ f i → unsigned_abs b ≤ lim → (i + 1) * lim < 2 ^ 127 → to_z w128 (of_z w128 (a +ℤ to_z w128 (of_z w128 b))) ≡ total f (i + 1)
total_step f i lim a b is size more few small =
    rw (kept b lim few (omega arith), kept (a +ℤ b) (i * lim + lim) (size-plus a b (i * lim) lim size few) (omega arith), total_more f i) cc

pub size_step : (i lim : ℕ) (a b : ℤ) → unsigned_abs a ≤ i * lim → unsigned_abs b ≤ lim → (i + 1) * lim < 2 ^ 127 → unsigned_abs (to_z w128 (of_z w128 (a +ℤ to_z w128 (of_z w128 b)))) ≤ (i + 1) * lim
size_step i lim a b size few small =
    rw (kept b lim few (omega arith), kept (a +ℤ b) (i * lim + lim) (size-plus a b (i * lim) lim size few) (omega arith)) (omega (arith, size-plus a b (i * lim) lim size few))

pub difference_sum_kept : (a b s : ℤ) (l m n : ℕ) → unsigned_abs a ≤ l → unsigned_abs b ≤ m → unsigned_abs s ≤ n → l + m + n < 2 ^ 127 → to_z w128 (of_z w128 (to_z w128 (of_z w128 (to_z w128 (of_z w128 a) -ℤ to_z w128 (of_z w128 b))) +ℤ to_z w128 (of_z w128 s))) ≡ (a -ℤ b) +ℤ s
difference_sum_kept a b s l m n h k j small =
    rw (kept a l h (omega arith), kept b m k (omega arith)) (sum_kept (a -ℤ b) s (l + m) n (size-minus a b l m h k) j small)

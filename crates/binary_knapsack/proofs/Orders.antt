-- The greatest worth of loads doesn't depend on their order.
use Rattle.std.proofs.Common.{◌≡◌, ℕ, zero, suc, ◌+◌, ◌-◌, ◌<◌, ◌≤◌, inl, inr, refl, sym, ap, ◌∙◌, arith, List, [], ◌∷◌, length, get_or}
use Rattle.std.specs.Prelude.{IsPermutation}
use Rattle.std.specs.List.{swap}
use Rattle.std.proofs.Math.ListN.{set}
use Rattle.std.proofs.lemmas.List.Sorted.{IsPermutation-keeps}
use Rattle.binary_knapsack.specs.Loads.{Load, most}
use Rattle.binary_knapsack.proofs.Most.{le_or_above, most_fits, most_heavy}

-- the same load before two lists of the same worth in each room
pub most_behind : (x : Load) (xs ys : List Load) → ((r : ℕ) → most r xs ≡ most r ys) → (r : ℕ) → most r (x ∷ xs) ≡ most r (x ∷ ys)
most_behind x xs ys same r = elim (le_or_above x.weight r) [
  | inl fits ↦ omega (arith, most_fits r x xs fits, most_fits r x ys fits, same r, same (r - x.weight))
  | inr heavy ↦ omega (arith, most_heavy r x xs heavy, most_heavy r x ys heavy, same r)
]

-- of two loads only the second fits
one_fits : (x y : Load) (zs : List Load) (r : ℕ) → x.weight ≤ r → r < y.weight → most r (x ∷ y ∷ zs) ≡ most r (y ∷ x ∷ zs)
one_fits x y zs r fits heavy =
    omega (arith, most_fits r x (y ∷ zs) fits, most_heavy r y zs heavy, most_heavy (r - x.weight) y zs (omega arith), most_heavy r y (x ∷ zs) heavy, most_fits r x zs fits)

-- each fits alone
both_fit : (x y : Load) (zs : List Load) (r : ℕ) → x.weight ≤ r → y.weight ≤ r → most r (x ∷ y ∷ zs) ≡ most r (y ∷ x ∷ zs)
both_fit x y zs r fx fy =
    let a = most_fits r x (y ∷ zs) fx in
    let b = most_fits r y zs fy in
    let c = most_fits r y (x ∷ zs) fy in
    let d = most_fits r x zs fx in
    elim (le_or_above (x.weight + y.weight) r) [
      | inl fits ↦
          let left : (r - x.weight) - y.weight ≡ (r - y.weight) - x.weight = omega arith in
          let e = most_fits (r - x.weight) y zs (omega arith) in
          let f = most_fits (r - y.weight) x zs (omega arith) in
          omega (arith, a, b, c, d, e, f, ap (λ n. most n zs) left)
      | inr heavy ↦
          let e = most_heavy (r - x.weight) y zs (omega arith) in
          let f = most_heavy (r - y.weight) x zs (omega arith) in
          omega (arith, a, b, c, d, e, f)
    ]

-- the first two loads change places
pub most-swap : (x y : Load) (zs : List Load) (r : ℕ) → most r (x ∷ y ∷ zs) ≡ most r (y ∷ x ∷ zs)
most-swap x y zs r = elim (le_or_above x.weight r) [
  | inl fx ↦ elim (le_or_above y.weight r) [
    | inl fy ↦ both_fit x y zs r fx fy
    | inr hy ↦ one_fits x y zs r fx hy
  ]
  | inr hx ↦ elim (le_or_above y.weight r) [
    | inl fy ↦ sym (one_fits y x zs r fy hx)
    | inr hy ↦ omega (arith, most_heavy r x (y ∷ zs) hx, most_heavy r y zs hy, most_heavy r y (x ∷ zs) hy, most_heavy r x zs hx)
  ]
]

-- a load in the place of another one, which comes to the front
most-replace : (l : List Load) (i : ℕ) (y d : Load) → i < length l → (r : ℕ) → most r (get_or l i d ∷ set l i y) ≡ most r (y ∷ l)
most-replace [] i y d h r = absurd (omega arith)
most-replace (a ∷ l) zero y d h r = most-swap a y l r
most-replace (a ∷ l) (suc i) y d h r =
    most-swap (get_or l i d) a (set l i y) r
    ∙ most_behind a (get_or l i d ∷ set l i y) (y ∷ l) (most-replace l i y d (omega arith)) r
    ∙ most-swap a y l r

-- two loads change places
most_exchanged : (l : List Load) (i j : ℕ) (d : Load) → i < length l → j < length l → (r : ℕ) → most r (set (set l i (get_or l j d)) j (get_or l i d)) ≡ most r l
most_exchanged [] i j d hi hj r = absurd (omega arith)
most_exchanged (a ∷ l) zero zero d hi hj r = refl
most_exchanged (a ∷ l) zero (suc j) d hi hj r = most-replace l j a d (omega arith) r
most_exchanged (a ∷ l) (suc i) zero d hi hj r = most-replace l i a d (omega arith) r
most_exchanged (a ∷ l) (suc i) (suc j) d hi hj r =
    most_behind a (set (set l i (get_or l j d)) j (get_or l i d)) l (most_exchanged l i j d (omega arith) (omega arith)) r

swapped : (l : List Load) (i j : ℕ) → i < length l → j < length l → (r : ℕ) → most r (swap l i j) ≡ most r l
swapped [] i j hi hj r = refl
swapped (a ∷ l) i j hi hj r = most_exchanged (a ∷ l) i j a hi hj r

-- a list and its permutation are worth the same
pub most-IsPermutation : (xs ys : List Load) → IsPermutation xs ys → (r : ℕ) → most r ys ≡ most r xs
most-IsPermutation xs ys same =
    IsPermutation-keeps xs (λ l. (r : ℕ) → most r l ≡ most r xs) (λ r. refl) (λ l i j hi hj before r. swapped l i j hi hj r ∙ before r) ys same

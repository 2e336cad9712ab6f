-- The least of several costs.
use Rattle.std.proofs.Common.{◌≡◌, ℕ, zero, suc, ◌+◌, ◌<◌, ◌≤◌, min, map, Option, None, Some, ◌⊎◌, inl, inr, refl, ap, subst, arith}
use Rattle.std.specs.List.{range_with_len}
use Rattle.std.proofs.lemmas.Bool.{cases_lt}
use Rattle.pmed_paths.specs.Walks.{lesser, least_of, joined}

-- a cost that is there, and at most so much
abbrev pub IsAtMost : Option ℕ → ℕ → Type 0
IsAtMost None cost = ⊥
IsAtMost (Some x) cost = x ≤ cost

pub some-same : (x y : ℕ) → Some x ≡ Some y → x ≡ y
some-same x y e = cc

pub lesser-first : (x y : Option ℕ) (cost : ℕ) → IsAtMost x cost → IsAtMost (lesser x y) cost
lesser-first None y cost le = absurd le
lesser-first (Some x) None cost le = le
lesser-first (Some x) (Some y) cost le = omega (arith, le)

pub lesser-second : (x y : Option ℕ) (cost : ℕ) → IsAtMost y cost → IsAtMost (lesser x y) cost
lesser-second None y cost le = le
lesser-second (Some x) None cost le = absurd le
lesser-second (Some x) (Some y) cost le = omega (arith, le)

-- the lesser of two is one of them
pub lesser-from : (x y : Option ℕ) (cost : ℕ) → lesser x y ≡ Some cost → (x ≡ Some cost) ⊎ (y ≡ Some cost)
lesser-from None y cost e = inr e
lesser-from (Some x) None cost e = inl e
lesser-from (Some x) (Some y) cost e =
    let least : min x y ≡ cost = some-same (min x y) cost e in
    elim (cases_lt y x) [
      | inl lt ↦ let same : y ≡ cost = omega (arith, least, lt) in inr (ap Some same)
      | inr le ↦ let same : x ≡ cost = omega (arith, least, le) in inl (ap Some same)
    ]

-- the least is at most each of them
pub least_of-range : (f : ℕ → Option ℕ) (n start v cost : ℕ) → start ≤ v → v < start + n → IsAtMost (f v) cost → IsAtMost (least_of (map f (range_with_len start n))) cost
least_of-range f zero start v cost from below le = absurd (omega (arith, from, below))
least_of-range f (suc n) start v cost from below le =
    elim (cases_lt start v) [
      | inl lt ↦ lesser-second (f start) (least_of (map f (range_with_len (start + 1) n))) cost (least_of-range f n (start + 1) v cost (omega (arith, lt)) (omega (arith, below)) le)
      | inr ge ↦ let same : v ≡ start = omega (arith, ge, from) in lesser-first (f start) (least_of (map f (range_with_len (start + 1) n))) cost (subst (λ u. IsAtMost (f u) cost) same le)
    ]

-- the least is one of them
pub least_of-from : (f : ℕ → Option ℕ) (n start cost : ℕ) → least_of (map f (range_with_len start n)) ≡ Some cost → (v : ℕ) × (f v ≡ Some cost)
least_of-from f zero start cost e = absurd cc
least_of-from f (suc n) start cost e =
    elim (lesser-from (f start) (least_of (map f (range_with_len (start + 1) n))) cost e) [
      | inl first ↦ (start, first)
      | inr others ↦ least_of-from f n (start + 1) cost others
    ]

-- the parts of a sum
pub joined-from : (x y : Option ℕ) (cost : ℕ) → joined x y ≡ Some cost → (p : ℕ) × (q : ℕ) × (x ≡ Some p) × (y ≡ Some q) × (p + q ≡ cost)
joined-from None y cost e = absurd cc
joined-from (Some x) None cost e = absurd cc
joined-from (Some x) (Some y) cost e = (x, y, refl, refl, some-same (x + y) cost e)

pub joined-at_most : (x y : Option ℕ) (p cost total : ℕ) → x ≡ Some p → IsAtMost y cost → p + cost ≤ total → IsAtMost (joined x y) total
joined-at_most None y p cost total e le within = absurd cc
joined-at_most (Some x) None p cost total e le within = absurd le
joined-at_most (Some x) (Some y) p cost total e le within = omega (arith, some-same x p e, le, within)

-- The greatest worth of loads within a room: its two cases, and how it grows.
use Rattle.std.proofs.Common.{◌≡◌, ℕ, ◌+◌, ◌-◌, ◌<◌, ◌≤◌, ◌⊎◌, inl, inr, refl, arith, List, [], ◌∷◌, max}
use Rattle.std.specs.Prelude.{sum_by}
use Rattle.std.proofs.lemmas.Bool.{le-leb, lt-leb}
use Rattle.std.proofs.lemmas.Bool.Decides.{leb_tells}
use Rattle.std.proofs.lemmas.List.Sums.{sum_by-cons}
use Rattle.binary_knapsack.specs.Loads.{Load, most}

-- either the one number is at most the other or it is above it
pub le_or_above : (a b : ℕ) → (a ≤ b) ⊎ (b < a)
le_or_above a b = elim (leb_tells a b) [ inl h ↦ inl h.1 | inr h ↦ inr h.1 ]

pub most_of_none : (room : ℕ) → most room [] ≡ 0
unfolding most
most_of_none room = refl

-- a load that fits is taken or not
pub most_fits : (room : ℕ) (x : Load) (xs : List Load) → x.weight ≤ room → most room (x ∷ xs) ≡ max (most room xs) (x.worth + most (room - x.weight) xs)
unfolding most
most_fits room x xs h = rw (le-leb x.weight room h) refl

-- a load that doesn't fit is not taken
pub most_heavy : (room : ℕ) (x : Load) (xs : List Load) → room < x.weight → most room (x ∷ xs) ≡ most room xs
unfolding most
most_heavy room x xs h = rw (lt-leb x.weight room h) refl

-- a load more takes nothing away
pub most_cons : (room : ℕ) (x : Load) (xs : List Load) → most room xs ≤ most room (x ∷ xs)
most_cons room x xs = elim (le_or_above x.weight room) [
  | inl fits ↦ omega (arith, most_fits room x xs fits)
  | inr heavy ↦ omega (arith, most_heavy room x xs heavy)
]

-- nor does more room
pub most-mono : (xs : List Load) (a b : ℕ) → a ≤ b → most a xs ≤ most b xs
most-mono [] a b h = omega (arith, most_of_none a, most_of_none b)
most-mono (x ∷ xs) a b h =
    let here = most-mono xs a b h in
    let less = most-mono xs (a - x.weight) (b - x.weight) (omega arith) in
    let cons = most_cons b x xs in
    elim (le_or_above x.weight a) [
      | inl fits ↦ omega (arith, most_fits a x xs fits, most_fits b x xs (omega arith), here, less)
      | inr heavy ↦ omega (arith, most_heavy a x xs heavy, here, cons)
    ]

-- all loads together are worth no less
pub most-le_sum : (xs : List Load) (room : ℕ) → most room xs ≤ sum_by (λ x. x.worth) xs
most-le_sum [] room = omega (arith, most_of_none room)
most-le_sum (x ∷ xs) room =
    let sum = sum_by-cons (λ (y : Load). y.worth) x xs in
    let here = most-le_sum xs room in
    let less = most-le_sum xs (room - x.weight) in
    elim (le_or_above x.weight room) [
      | inl fits ↦ omega (arith, most_fits room x xs fits, sum, here, less)
      | inr heavy ↦ omega (arith, most_heavy room x xs heavy, sum, here)
    ]

-- where all fit together, all are taken
pub most_of_all : (xs : List Load) (room : ℕ) → sum_by (λ x. x.weight) xs ≤ room → most room xs ≡ sum_by (λ x. x.worth) xs
most_of_all [] room h = most_of_none room
most_of_all (x ∷ xs) room h =
    let weight = sum_by-cons (λ (y : Load). y.weight) x xs in
    let sum = sum_by-cons (λ (y : Load). y.worth) x xs in
    let less = most_of_all xs (room - x.weight) (omega arith) in
    let within = most-le_sum xs room in
    omega (arith, most_fits room x xs (omega arith), sum, less, within)

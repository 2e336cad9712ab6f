-- The search over all loads: how it begins and ends, and that its numbers are small.
use Rattle.std.proofs.Common.{◌≡◌, ℕ, ◌*◌, ◌<◌, ◌≤◌, ◌^◌, inl, inr, ap, arith, Option, None, Some, List, [], ◌∷◌, length, drop, max, pos, ◌≤ℤ◌}
use Rattle.std.specs.Prelude.{sum_by, All}
use Rattle.std.specs.Int.RustNames.{unsigned_abs}
use Rattle.std.proofs.lemmas.Int.{ints}
use Rattle.std.proofs.lemmas.List.{drop_all}
use Rattle.std.proofs.lemmas.List.Sums.{sum_by-cons}
use Rattle.std.proofs.lemmas.List.Elements.{All-head, All-tail}
use Rattle.binary_knapsack.specs.Loads.{Item, Load, Choice, most, most_in, reach, kept, may_pay, as_load}
use Rattle.binary_knapsack.proofs.Most.{most-le_sum}
use Rattle.binary_knapsack.proofs.Choices.{reach_cons, reach_of_none}
use Rattle.binary_knapsack.proofs.Kept.{load_of_paying, load_of_idle, paying_worth, bool_cases}

-- the one choice before any load is looked at
pub search_begin : (best total cap : ℕ) (loads : List Load) (now : List Choice) → now ≡ record { room = cap; worth = 0 } ∷ [] → max best (most cap loads) ≡ total → max best (reach loads now) ≡ total
search_begin best total cap loads now e h =
    let first : Choice = record { room = cap; worth = 0 } in
    omega (arith, h, ap (reach loads) e, reach_cons loads first [], reach_of_none loads)

-- the choices after all loads
pub search_end : (best total k : ℕ) (loads : List Load) (now : List Choice) → length loads ≤ k → max best (reach (drop k loads) now) ≡ total → max best (reach [] now) ≡ total
search_end best total k loads now h before = omega (arith, before, ap (λ l. reach l now) (drop_all k loads h))

-- what choices come to is small
pub reach_small : (best known cap k : ℕ) (loads : List Load) (now : List Choice) → max best (reach (drop k loads) now) ≡ max known (most cap loads) → sum_by (λ x. x.worth) loads < 2 ^ 110 → known < 2 ^ 110
    → reach (drop k loads) now < 2 ^ 126
reach_small best known cap k loads now e h small = omega (arith, e, h, small, most-le_sum loads cap)

-- loads are worth no more together than so many of the greatest
pub kept_small : (cap : Option ℕ) (items : List Item) (m : ℕ) → All (λ x. x.worth ≤ℤ pos m) items → sum_by (λ x. x.worth) (kept cap items) ≤ length items * m
kept_small cap [] m all = omega arith
kept_small cap (x ∷ xs) m all =
    let rest = kept_small cap xs m (All-tail (λ (y : Item). y.worth ≤ℤ pos m) x xs all) in
    let here : x.worth ≤ℤ pos m = All-head (λ (y : Item). y.worth ≤ℤ pos m) x xs all in
    elim (bool_cases (may_pay cap x)) [
      | inl pays ↦
          let size : unsigned_abs x.worth ≤ m = (let worth = paying_worth cap x pays in omega (arith, ints, worth, here)) in
          rw (load_of_paying cap x pays) (omega (arith, rest, size, sum_by-cons (λ (y : Load). y.worth) (as_load x) (kept cap xs)))
      | inr idle ↦ rw (load_of_idle cap x idle) (omega (arith, rest))
    ]

pub most_in-le_sum : (cap : Option ℕ) (loads : List Load) → most_in cap loads ≤ sum_by (λ x. x.worth) loads
most_in-le_sum None loads = omega arith
most_in-le_sum (Some c) loads = most-le_sum loads c

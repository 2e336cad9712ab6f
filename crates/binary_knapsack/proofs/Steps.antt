-- One load or one choice more, in the loops over them.
use Rattle.std.proofs.Common.{◌≡◌, ℕ, ◌+◌, ◌-◌, ◌*◌, ◌<◌, ◌≤◌, ap, arith, List, [], ◌∷◌, length, get_or, drop, max}
use Rattle.std.specs.Prelude.{sum_by}
use Rattle.std.proofs.lemmas.List.{drop_more, drop_all}
use Rattle.std.proofs.lemmas.List.Sums.{sum_by-cons}
use Rattle.binary_knapsack.specs.Loads.{Load, Choice, most, worth_with, reach}
use Rattle.binary_knapsack.specs.Bounds.{excess}
use Rattle.binary_knapsack.specs.declared.limit.TheConstants.{PARTS}
use Rattle.binary_knapsack.proofs.Most.{most_fits, most_cons, most_of_none}
use Rattle.binary_knapsack.proofs.Choices.{reach_drop, reach_of_none}

-- the loads from a place on are the one there and those behind it
pub most_drop : (loads : List Load) (i : ℕ) (d : Load) (room : ℕ) → i < length loads → most room (drop i loads) ≡ most room (get_or loads i d ∷ drop (i + 1) loads)
most_drop loads i d room h = ap (most room) (drop_more loads i d h)

-- the next load is taken
pub step_taken : (loads : List Load) (i : ℕ) (d : Load) (room worth bound : ℕ) → i < length loads → (get_or loads i d).weight ≤ room
    → worth + most room (drop i loads) ≤ bound → (worth + (get_or loads i d).worth) + most (room - (get_or loads i d).weight) (drop (i + 1) loads) ≤ bound
step_taken loads i d room worth bound h fits before =
    omega (arith, before, most_drop loads i d room h, most_fits room (get_or loads i d) (drop (i + 1) loads) fits)

-- or left out
pub step_left : (loads : List Load) (i : ℕ) (d : Load) (room worth bound : ℕ) → i < length loads
    → worth + most room (drop i loads) ≤ bound → worth + most room (drop (i + 1) loads) ≤ bound
step_left loads i d room worth bound h before =
    omega (arith, before, most_drop loads i d room h, most_cons room (get_or loads i d) (drop (i + 1) loads))

-- what the loads are worth above the price of their weights is at most what they are worth
pub excess_within : (price : ℕ) (loads : List Load) → sum_by (excess price) loads ≤ PARTS * sum_by (λ x. x.worth) loads
excess_within price [] = omega arith
excess_within price (x ∷ xs) =
    omega (arith, sum_by-cons (excess price) x xs, sum_by-cons (λ (y : Load). y.worth) x xs, excess_within price xs)

-- the next choice is added
pub pass_more : (rest : List Load) (best total now next : ℕ) (choices : List Choice) (i : ℕ) (d : Choice) → i < length choices
    → max best (max now (reach rest (drop i choices))) ≡ total → max best next ≡ max best (max now (worth_with rest (get_or choices i d)))
    → max best (max next (reach rest (drop (i + 1) choices))) ≡ total
pass_more rest best total now next choices i d h before added = omega (arith, before, added, reach_drop rest choices i d h)

-- no choice is left
pub pass_end : (rest : List Load) (best total now : ℕ) (choices : List Choice) (i : ℕ) → length choices ≤ i
    → max best (max now (reach rest (drop i choices))) ≡ total → max best now ≡ total
pass_end rest best total now choices i h before = omega (arith, before, ap (reach rest) (drop_all i choices h), reach_of_none rest)

-- the next choice with no load to come is worth more than what is known, or not
pub greatest_more : (choices : List Choice) (i : ℕ) (d : Choice) (best total : ℕ) → i < length choices → best < (get_or choices i d).worth
    → max best (reach [] (drop i choices)) ≡ total → max (get_or choices i d).worth (reach [] (drop (i + 1) choices)) ≡ total
greatest_more choices i d best total h more before =
    omega (arith, before, reach_drop [] choices i d h, most_of_none (get_or choices i d).room)

pub greatest_same : (choices : List Choice) (i : ℕ) (d : Choice) (best total : ℕ) → i < length choices → (get_or choices i d).worth ≤ best
    → max best (reach [] (drop i choices)) ≡ total → max best (reach [] (drop (i + 1) choices)) ≡ total
greatest_same choices i d best total h less before =
    omega (arith, before, reach_drop [] choices i d h, most_of_none (get_or choices i d).room)

pub greatest_end : (choices : List Choice) (i : ℕ) (best total : ℕ) → length choices ≤ i → max best (reach [] (drop i choices)) ≡ total → best ≡ total
greatest_end choices i best total h before = omega (arith, before, ap (reach []) (drop_all i choices h), reach_of_none [])

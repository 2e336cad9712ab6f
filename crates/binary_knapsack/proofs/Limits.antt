-- What loads still to come can add, by the gains above the price of their weights.
use Rattle.std.proofs.Common.{◌≡◌, ℕ, ◌+◌, ◌-◌, ◌*◌, ◌<◌, ◌≤◌, inl, inr, sym, ap, ◌∙◌, arith, List, [], ◌∷◌, length, get_or, drop}
use Rattle.std.specs.Prelude.{sum_by}
use native.Mathlib.Nat.{mul-add}
use Rattle.std.proofs.lemmas.List.Sums.{sum_by-cons, sum_by-drop_more}
use Rattle.binary_knapsack.specs.Loads.{Load, most}
use Rattle.binary_knapsack.specs.Bounds.{excess, IsBound}
use Rattle.binary_knapsack.specs.declared.limit.Limit.{Limit}
use Rattle.binary_knapsack.specs.declared.limit.TheConstants.{PARTS}
use Rattle.binary_knapsack.proofs.Most.{le_or_above, most_of_none, most_fits, most_heavy}

-- the price of a room is that of a weight and of what it leaves
price_split : (price room weight : ℕ) → weight ≤ room → price * (room - weight) + price * weight ≡ price * room
price_split price room weight h =
    let back : (room - weight) + weight ≡ room = omega arith in
    sym (mul-add price (room - weight) weight) ∙ ap (λ n. price * n) back

pub gains_bound : (price : ℕ) (rest : List Load) (room : ℕ) → PARTS * most room rest ≤ sum_by (excess price) rest + price * room
gains_bound price [] room = omega (arith, most_of_none room)
gains_bound price (x ∷ xs) room =
    let sum = sum_by-cons (excess price) x xs in
    let here = gains_bound price xs room in
    let less = gains_bound price xs (room - x.weight) in
    elim (le_or_above x.weight room) [
      | inl fits ↦ omega (arith, most_fits room x xs fits, sum, here, less, price_split price room x.weight fits)
      | inr heavy ↦ omega (arith, most_heavy room x xs heavy, sum, here)
    ]

-- a limit whose gain is that of the loads bounds them
pub bound_by_gain : (limit : Limit) (rest : List Load) → limit.gain ≡ sum_by (excess limit.price) rest → IsBound limit rest
bound_by_gain limit rest e = record { within = λ room. (let g = gains_bound limit.price rest room in omega (arith, g, e)) }

-- the gain without the next load
pub gain_behind : (price gain : ℕ) (loads : List Load) (i : ℕ) (d : Load) → i < length loads → gain ≡ sum_by (excess price) (drop i loads)
    → gain - excess price (get_or loads i d) ≡ sum_by (excess price) (drop (i + 1) loads)
gain_behind price gain loads i d h e = omega (arith, e, sum_by-drop_more (excess price) loads i d h)

pub gain_of_next : (price gain : ℕ) (loads : List Load) (i : ℕ) (d : Load) → i < length loads → gain ≡ sum_by (excess price) (drop i loads)
    → excess price (get_or loads i d) ≤ gain
gain_of_next price gain loads i d h e = omega (arith, e, sum_by-drop_more (excess price) loads i d h)

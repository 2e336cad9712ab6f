use Rattle.std.proofs.Common.{◌≡◌, ℕ, ◌≤◌, sym, ap, ◌∙◌, arith, ℤ, pos, ◌≤ℤ◌, Option, List, length, All, max}
use mir.Syntax.{w128}
use mir.Val.{to_z}
use Rattle.std.specs.Int.{int_max}
use Rattle.std.proofs.lemmas.Int.{ints, clamps, fits_signed_from_abs, to_z-of_z}
use Rattle.binary_knapsack.specs.Loads.{Item, Load, most_in, kept}
use Rattle.binary_knapsack.proofs.Best.{best_worth_of_loads}
use Rattle.binary_knapsack.proofs.Searches.{kept_small, most_in-le_sum}
use Rattle.binary_knapsack.proofs.room.KnapsackRoom.best_worth_from.Goals as goal

pub best_of_loads-requires-clause-sum : goal.best_of_loads-requires-clause-sum
best_of_loads-requires-clause-sum c =
    let is : c.keep.new.loads.items ≡ kept c.args.cap c.args.items.now = c.in_ok-keep.ensures in
    let few = c.requires.count in
    rw is (omega (arith, few, kept_small c.args.cap c.args.items.now 1000000000000000000000000000 c.requires.worths))

-- what is found is within the greatest worth of a set
found_small : (cap : Option ℕ) (items : List Item) (loads : List Load) (least : ℤ) (known worth : ℕ) → loads ≡ kept cap items → pos known ≡ int_max least (pos 0) → worth ≡ max known (most_in cap loads)
    → length items ≤ 1000000 → All (λ x. x.worth ≤ℤ pos 1000000000000000000000000000) items → least ≤ℤ pos 1000000000000000000000000000000000 → worth ≤ 1000000000000000000000000000000000
found_small cap items loads least known worth is reached found few small low =
    let here : worth ≡ max known (most_in cap (kept cap items)) = rw is at found in
    let most = most_in-le_sum cap (kept cap items) in
    let sum = kept_small cap items 1000000000000000000000000000 small in
    let below : known ≤ 1000000000000000000000000000000000 = omega (arith, ints, clamps, reached, low) in
    omega (arith, here, few, most, sum, below)

-- and is the best worth, or the least where that is greater
found_is : (cap : Option ℕ) (items : List Item) (loads : List Load) (least : ℤ) (known worth : ℕ) → loads ≡ kept cap items → pos known ≡ int_max least (pos 0) → worth ≡ max known (most_in cap loads)
    → pos worth ≡ int_max least (pos (most_in cap (kept cap items)))
found_is cap items loads least known worth is reached found =
    let here : worth ≡ max known (most_in cap (kept cap items)) = rw is at found in
    omega (arith, ints, clamps, reached, here)

pub overflow_cast-result : goal.overflow_cast-result
overflow_cast-result c =
    let reached : pos c.known_worth.result ≡ int_max c.args.least (pos 0) = rw (to_z-of_z w128 c.args.least c.ranges.least) at c.known_worth.ensures.exact in
    let small = found_small c.args.cap c.args.items.now c.keep.new.loads.items c.args.least c.known_worth.result c.in_ok-worth.worth c.in_ok-keep.ensures reached c.in_ok-worth.ensures c.requires.count c.requires.worths c.requires.least in
    fits_signed_from_abs w128 (pos c.in_ok-worth.worth) (omega (arith, small))

pub returns-clause-exact : goal.returns-clause-exact
returns-clause-exact c =
    let reached : pos c.known_worth.result ≡ int_max c.args.least (pos 0) = rw (to_z-of_z w128 c.args.least c.ranges.least) at c.known_worth.ensures.exact in
    let small = found_small c.args.cap c.args.items.now c.keep.new.loads.items c.args.least c.known_worth.result c.in_ok-worth.worth c.in_ok-keep.ensures reached c.in_ok-worth.ensures c.requires.count c.requires.worths c.requires.least in
    let cast : to_z w128 c.in_ok-worth.worth ≡ pos c.in_ok-worth.worth = omega (arith, ints, small) in
    cast
    ∙ found_is c.args.cap c.args.items.now c.keep.new.loads.items c.args.least c.known_worth.result c.in_ok-worth.worth c.in_ok-keep.ensures reached c.in_ok-worth.ensures
    ∙ ap (int_max c.args.least) (sym (best_worth_of_loads c.args.cap c.args.items.now))

pub returns-clause-low : goal.returns-clause-low
returns-clause-low c =
    let reached : pos c.known_worth.result ≡ int_max c.args.least (pos 0) = rw (to_z-of_z w128 c.args.least c.ranges.least) at c.known_worth.ensures.exact in
    let small = found_small c.args.cap c.args.items.now c.keep.new.loads.items c.args.least c.known_worth.result c.in_ok-worth.worth c.in_ok-keep.ensures reached c.in_ok-worth.ensures c.requires.count c.requires.worths c.requires.least in
    omega (arith, ints, small)

pub returns-clause-high : goal.returns-clause-high
returns-clause-high c =
    let reached : pos c.known_worth.result ≡ int_max c.args.least (pos 0) = rw (to_z-of_z w128 c.args.least c.ranges.least) at c.known_worth.ensures.exact in
    let small = found_small c.args.cap c.args.items.now c.keep.new.loads.items c.args.least c.known_worth.result c.in_ok-worth.worth c.in_ok-keep.ensures reached c.in_ok-worth.ensures c.requires.count c.requires.worths c.requires.least in
    omega (arith, ints, small)

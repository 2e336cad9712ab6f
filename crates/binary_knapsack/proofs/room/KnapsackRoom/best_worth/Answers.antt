use Rattle.std.proofs.Common.{◌≡◌, ℕ, ◌≤◌, ℤ, pos, negsuc, ◌≤ℤ◌, ◌∙◌, arith}
use Rattle.std.specs.Int.RustNames.{unsigned_abs}
use mir.Syntax.{w128}
use Rattle.std.specs.Int.{int_max}
use Rattle.std.proofs.lemmas.Int.{ints, clamps, fits_signed_from_abs, to_z-of_z}
use Rattle.binary_knapsack.specs.Knapsack.{best_worth}
use Rattle.binary_knapsack.proofs.Best.{best_is_some}
use Rattle.binary_knapsack.proofs.room.KnapsackRoom.best_worth.Goals as goal

small_size : (z : ℤ) (n : ℕ) → pos 0 ≤ℤ z → z ≤ℤ pos n → unsigned_abs z ≤ n
small_size (pos m) n low high = omega (arith, ints, high)
small_size (negsuc m) n low high = omega (arith, ints, low)

pub returns-clause-exact : goal.returns-clause-exact
returns-clause-exact c =
    let worth = c.in_ok-worth.worth in
    let best = best_worth c.args.cap c.args.items.now in
    let some : pos 0 ≤ℤ best = best_is_some c.args.cap c.args.items.now in
    let is : worth ≡ best = (let found : worth ≡ int_max (pos 0) best = c.in_ok-worth.ensures.exact in omega (arith, ints, clamps, found, some)) in
    let size = small_size worth 1000000000000000000000000000000000 c.in_ok-worth.ensures.low c.in_ok-worth.ensures.high in
    to_z-of_z w128 worth (fits_signed_from_abs w128 worth (omega (arith, size))) ∙ is

use Rattle.std.proofs.Common.{length, ◌≤◌, ◌≤ℤ◌, All, IfOk, ◌≡◌, ℕ, ◌+◌, ◌-◌, ◌*◌, ◌<◌, ℤ, pos, ◌+ℤ◌, ◌-ℤ◌, ◌*ℤ◌, ◌<ℤ◌, FitsSigned, to_z, of_z}
use Rattle.binary_knapsack.specs.declared.room.TheConstants.{MAX_WORTH}
use Rattle.binary_knapsack.proofs.tests.+by_sets.Given as goal

-- proposed from what the function passes where it calls itself
abbrev pub decreases-by_sets : goal.decreases-by_sets
decreases-by_sets l = length l.pairs.now

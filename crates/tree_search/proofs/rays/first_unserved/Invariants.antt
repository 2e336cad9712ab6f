use Rattle.std.proofs.Common.{◌≢◌, ℕ, ◌<◌, length}
use Rattle.dual_ascent.specs.Levels.{servers}
use Rattle.tree_search.proofs.rays.first_unserved.Given as goal

abbrev pub invariant-loop-cust : goal.invariant-loop-cust
invariant-loop-cust l = (j : ℕ) → j < l.cust → length (servers l.boxed.instance l.boxed.path j) ≢ 0

use Rattle.std.proofs.Common.{◌≡◌, ℕ, ◌≤◌, length}
use Rattle.std.specs.Prelude.{All}
use Rattle.location_terms.specs.Leaf.{LeafFits}
use Rattle.range_scan.specs.Short.{LacksAtMost}
use Rattle.range_scan.proofs.lacking.most_lacking.Given as goal

-- all the leaves lack at most a number where the rest do and the number so far is no greater, and the other way about
abbrev pub invariant-loop-walk : goal.invariant-loop-walk
invariant-loop-walk l = record {
  bounds : l.bounds ≡ l.fn.bounds;
  fit : All (λ a. LeafFits l.fn.bounds a.1) l.walk;
  ahead : (w : ℕ) → l.most ≤ w → All (LacksAtMost l.fn.bounds l.target w) l.walk → All (LacksAtMost l.fn.bounds l.target w) l.fn.walk;
  back : (w : ℕ) → All (LacksAtMost l.fn.bounds l.target w) l.fn.walk → (l.most ≤ w) × All (LacksAtMost l.fn.bounds l.target w) l.walk;
}

abbrev pub decreases-loop-walk : goal.decreases-loop-walk
decreases-loop-walk l = length l.walk

use Rattle.std.proofs.Common.{◌≡◌, length}
use Rattle.std.specs.Prelude.{All}
use Rattle.location_terms.specs.Leaf.{LeafFits}
use Rattle.location_terms.specs.declared.limits.TheConstants.{MAX_COST}
use Rattle.branch_tree.specs.Walk.{lowered_all}
use Rattle.branch_tree.proofs.bounds.least_low.Given as goal

abbrev pub invariant-loop-walk : goal.invariant-loop-walk
invariant-loop-walk l = record {
  bounds : l.bounds ≡ l.fn.bounds;
  fit : All (λ a. LeafFits l.fn.bounds a.1) l.walk;
  low : lowered_all l.fn.bounds l.least l.walk ≡ lowered_all l.fn.bounds MAX_COST l.fn.walk;
}

abbrev pub decreases-loop-walk : goal.decreases-loop-walk
decreases-loop-walk l = length l.walk

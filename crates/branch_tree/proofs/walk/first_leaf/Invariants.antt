use Rattle.std.proofs.Common.{◌≡◌, length}
use Rattle.branch_tree.specs.Walk.{leaves_ahead}
use Rattle.branch_tree.proofs.walk.first_leaf.Given as goal

abbrev pub invariant-loop-entry : goal.invariant-loop-entry
invariant-loop-entry l = leaves_ahead l.path l.rest ≡ leaves_ahead l.fn.path l.nodes

abbrev pub decreases-loop-entry : goal.decreases-loop-entry
decreases-loop-entry l = length l.rest

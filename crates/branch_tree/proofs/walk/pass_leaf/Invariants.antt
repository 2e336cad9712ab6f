use Rattle.std.proofs.Common.{◌≡◌, length}
use Rattle.branch_tree.specs.Walk.{turned}
use Rattle.branch_tree.proofs.walk.pass_leaf.Given as goal

abbrev pub invariant-loop-path : goal.invariant-loop-path
invariant-loop-path l = turned l.path ≡ turned l.fn.path

abbrev pub decreases-loop-path : goal.decreases-loop-path
decreases-loop-path l = length l.path

use Rattle.std.proofs.Common.{◌≡◌, ◌+◌, take}
use Rattle.std.specs.Prelude.{count_by}
use Rattle.branch_tree.specs.Leaf.{is_end}
use Rattle.branch_tree.proofs.leaves.leaf_place.Given as goal

abbrev pub invariant-loop-place : goal.invariant-loop-place
invariant-loop-place l = count_by is_end (take l.place l.nodes) + l.left ≡ l.k

use Rattle.std.proofs.Common.{◌≡◌, ◌+◌, ◌≤◌, [], length}
use Rattle.std.specs.Prelude.{fold}
use Rattle.branch_tree.specs.Above.{settled}
use Rattle.branch_tree.specs.Walk.{passed}
use Rattle.branch_tree.proofs.Above.{reached}
use Rattle.branch_tree.proofs.leaves.depth_after.Given as goal

abbrev pub invariant-loop-place : goal.invariant-loop-place
invariant-loop-place l = record {
  counted : l.depth + length (settled l.done (reached l.nodes l.place)) ≡ length (fold passed [] l.nodes);
  depth_fits : l.depth + l.place ≤ length l.nodes;
  done_fits : l.done + l.place ≤ length l.nodes;
}

abbrev pub decreases-loop-place : goal.decreases-loop-place
decreases-loop-place l = l.place

use Rattle.std.proofs.Common.{◌≡◌, ◌+◌, ◌<◌, ◌≤◌, [], length}
use Rattle.std.specs.Prelude.{fold, slice_get}
use Rattle.branch_tree.specs.Above.{settled}
use Rattle.branch_tree.specs.Walk.{passed}
use Rattle.branch_tree.proofs.Above.{reached}
use Rattle.branch_tree.proofs.leaves.step_after.Given as goal

abbrev pub invariant-loop-place : goal.invariant-loop-place
invariant-loop-place l = record {
  counted : l.depth ≡ length (settled l.done (reached l.nodes l.place));
  above : l.at < l.depth;
  same : slice_get (settled l.done (reached l.nodes l.place)) l.at ≡ slice_get (fold passed [] l.nodes) l.at;
  done_fits : l.done + l.place ≤ length l.nodes;
}

abbrev pub decreases-loop-place : goal.decreases-loop-place
decreases-loop-place l = l.place

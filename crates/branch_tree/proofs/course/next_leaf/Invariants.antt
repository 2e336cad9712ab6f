use Rattle.std.proofs.Common.{◌≡◌, ◌++◌, length}
use Rattle.std.specs.Prelude.{count_by, reverse}
use Rattle.branch_tree.specs.Leaf.{is_end}
use Rattle.branch_tree.specs.Walk.{leaves_ahead}
use Rattle.branch_tree.proofs.course.next_leaf.Given as goal

abbrev pub invariant-loop-entry : goal.invariant-loop-entry
invariant-loop-entry l = record {
  nodes : l.done.items ++ reverse l.ahead.items ≡ l.fn.done.items ++ reverse l.fn.ahead.items;
  settled : count_by is_end l.done.items ≡ count_by is_end l.fn.done.items;
  ahead : leaves_ahead l.path (reverse l.ahead.items) ≡ leaves_ahead l.fn.path (reverse l.fn.ahead.items);
}

abbrev pub decreases-loop-entry : goal.decreases-loop-entry
decreases-loop-entry l = length l.ahead.items

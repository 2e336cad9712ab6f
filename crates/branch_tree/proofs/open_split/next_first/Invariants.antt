use Rattle.std.proofs.Common.{◌≡◌, ◌≤◌, ◌++◌, None, length}
use Rattle.std.specs.Prelude.{count_by}
use Rattle.std.specs.Vec.{vec_capacity}
use Rattle.location_terms.specs.Box.{Path as Decisions}
use Rattle.branch_tree.specs.Leaf.{is_end}
use Rattle.branch_tree.specs.OpenSplits.{entries_above, steps_above, nodes_kept}
use Rattle.branch_tree.proofs.open_split.next_first.Given as goal

abbrev pub invariant-loop-split : goal.invariant-loop-split
invariant-loop-split l = record {
  nodes : nodes_kept l.above.items None l.done.items ≡ nodes_kept l.fn.above.items None l.fn.done.items;
  left : count_by is_end (entries_above l.above.items) ≡ count_by is_end (entries_above l.fn.above.items);
  leads : (base : Decisions) → l.fn.path ≡ base ++ steps_above l.fn.above.items → l.path ≡ base ++ steps_above l.above.items;
  deep : length l.above.items ≤ length l.path;
  same_room : vec_capacity l.done ≡ vec_capacity l.fn.done;
}

abbrev pub decreases-loop-split : goal.decreases-loop-split
decreases-loop-split l = length l.above.items

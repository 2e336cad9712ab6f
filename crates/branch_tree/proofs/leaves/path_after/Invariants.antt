use Rattle.std.proofs.Common.{◌≡◌, [], take}
use Rattle.std.specs.Prelude.{fold}
use Rattle.branch_tree.specs.Walk.{passed}
use Rattle.branch_tree.proofs.leaves.path_after.Given as goal

abbrev pub invariant-loop-entry : goal.invariant-loop-entry
invariant-loop-entry l = l.path ≡ fold passed [] (take l.entry-index l.nodes)

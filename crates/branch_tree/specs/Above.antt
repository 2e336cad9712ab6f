-- For private functions alone: no public contract cites this page.
-- The path to a node, read back from it: the splits that the node is below, from the last one up.
use Rattle.std.specs.Prelude.{ℕ, ◌+◌, ◌-◌, zero, suc, Option, Some, None}
use Rattle.location_terms.specs.declared.decision.Decision.{Decision}
use Rattle.location_terms.specs.Box.{Path}
use Rattle.location_terms.specs.Split.{first_step, second_step}
use Rattle.branch_tree.specs.declared.entry.Entry.{Entry}
use Rattle.branch_tree.specs.declared.entry.Entry.TheVariants.{End, Branch}
use Rattle.branch_tree.specs.Walk.{next}

-- the decision of a split's child, where so many of its children are done, and none where both are
abbrev pub chosen : Decision → Decision → ℕ → Option Decision
chosen first second zero = Some first
chosen first second (suc zero) = Some second
chosen first second (suc (suc n)) = None

-- the step from an entry down to a node, where so many trees are done between them
abbrev pub step_below : Entry → ℕ → Option Decision
step_below (End d) done = None
step_below (Branch split) done = chosen (first_step split) (second_step split) done

-- how many trees are done between the node above and this entry: a leaf is one, and a split makes one of two
abbrev pub done_before : Entry → ℕ → ℕ
done_before (End d) done = done + 1
done_before (Branch split) done = done - 1

-- where a walk goes from the path when so many trees are done
abbrev pub settled : ℕ → Path → Path
settled zero path = path
settled (suc n) path = settled n (next path)

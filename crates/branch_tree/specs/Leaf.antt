-- The leaves of a tree by their order, and the tree with another in a leaf's place.
use Rattle.std.specs.Prelude.{ℕ, ◌-◌, Bool, true, false, [], length, nat_lt, if◌then◌else◌}
use Rattle.location_terms.specs.Tree.{Node, Leaf, Fork, Tree, leaves_below}
use Rattle.branch_tree.specs.declared.entry.Entry.{Entry}
use Rattle.branch_tree.specs.declared.entry.Entry.TheVariants.{End, Branch}

abbrev pub is_end : Entry → Bool
is_end (End d) = true
is_end (Branch split) = false

abbrev pub leaf_total : Node → ℕ
leaf_total t = length (leaves_below [] t)

-- the tree with the part in the place of its leaf k
abbrev pub replaced : Node → ℕ → Node → Node
replaced (Leaf d) k part = part
replaced (Fork split first second) k part = if nat_lt k (leaf_total first) then Fork split (replaced first k part) second else Fork split first (replaced second (k - leaf_total first) part)

abbrev pub replaced_in : Tree → ℕ → Tree → Tree
replaced_in t k part = record t { root = replaced t.root k part.root }

-- The trees that the constructors make, and a tree's nodes as they are shown.
use Rattle.std.specs.Prelude.{ℕ, List, [], ◌∷◌, ◌++◌, Option, None, Some, slice_get}
use Rattle.std.specs.Option.{option_and_then}
use Rattle.location_terms.specs.declared.split.Split.{Split}
use Rattle.location_terms.specs.Instance.{Instance, site_ids, customer_ids}
use Rattle.location_terms.specs.Bound.{Duals}
use Rattle.location_terms.specs.Tree.{Node, Leaf, Fork, Tree}
use Rattle.branch_tree.specs.Preorder.{flat}
use Rattle.branch_tree.specs.declared.entry.Entry.{Entry}
use Rattle.branch_tree.specs.declared.entry.Entry.TheVariants.{End, Branch}
use Rattle.branch_tree.specs.declared.node.NodeKind.{NodeKind as Shown}
use Rattle.branch_tree.specs.declared.node.NodeKind.TheVariants as shown

-- one leaf with these duals, on the instance's ids
abbrev pub leaf_of : Instance → Duals → Tree
leaf_of I d = record { sites = site_ids I; customers = customer_ids I; root = Leaf d }

-- a split whose children are these trees, on the ids of the first
abbrev pub forked : Split → Tree → Tree → Tree
forked split first second = record { sites = first.sites; customers = first.customers; root = Fork split first.root second.root }

-- the nodes in preorder, without their duals
abbrev pub nodes_shown : Node → List Shown
nodes_shown (Leaf d) = shown.Leaf ∷ []
nodes_shown (Fork split first second) = shown.Split split ∷ (nodes_shown first ++ nodes_shown second)

abbrev pub entry_shown : Entry → Shown
entry_shown (End d) = shown.Leaf
entry_shown (Branch split) = shown.Split split

-- the duals of an entry, where it is a leaf
abbrev pub duals_of : Entry → Option Duals
duals_of (End d) = Some d
duals_of (Branch split) = None

-- the duals of the node at a place in preorder, where a leaf is there
abbrev pub duals_at : Node → ℕ → Option Duals
duals_at t at = option_and_then duals_of (slice_get (flat t) at)

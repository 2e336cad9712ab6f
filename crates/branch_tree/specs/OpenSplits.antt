-- How a tree that grows is kept: the splits above the leaf at work, that leaf's duals, and what is done, the last node first.
use Rattle.std.specs.Prelude.{◌≡◌, ℕ, ◌^◌, ◌-◌, ◌<◌, ◌≤◌, List, [], ◌∷◌, ◌++◌, All, Option, Some, None, length, map, take, reverse}
use Rattle.std.specs.List.{flat_map}
use Rattle.location_terms.specs.declared.decision.Decision.{Decision}
use Rattle.location_terms.specs.Box.{Path}
use Rattle.location_terms.specs.Split.{first_step, second_step}
use Rattle.location_terms.specs.Bound.{Duals}
use Rattle.branch_tree.specs.declared.entry.Entry.{Entry}
use Rattle.branch_tree.specs.declared.entry.Entry.TheVariants.{End, Branch}
use Rattle.branch_tree.specs.declared.open_split.OpenSplit.{OpenSplit}
use Rattle.branch_tree.specs.Preorder.{flat, tree_of, IsSound}

-- a leaf where there are duals
abbrev pub ends_of : Option Duals → List Entry
ends_of None = []
ends_of (Some d) = End d ∷ []

-- the split, and its first child where that waits
abbrev pub entries_of : OpenSplit → List Entry
entries_of o = Branch o.split ∷ ends_of o.first

-- the step to the child that the leaf at work is below: to the second while the first waits
abbrev pub step_of : OpenSplit → Decision
step_of o = elim o.first [ None ↦ first_step o.split | Some d ↦ second_step o.split ]

abbrev pub entries_above : List OpenSplit → List Entry
entries_above above = flat_map entries_of above

abbrev pub steps_above : List OpenSplit → Path
steps_above above = map step_of above

-- all the nodes in preorder
abbrev pub nodes_kept : List OpenSplit → Option Duals → List Entry → List Entry
nodes_kept above work done = entries_above above ++ (ends_of work ++ reverse done)

-- the path to the root of the tree, which that to the leaf at work begins with
abbrev pub base_of : Path → List OpenSplit → Path
base_of path above = take (length path - length above) path

-- what is kept stands for a whole tree on these ids, in which the path leads to the leaf at work, whose nodes are counted, and what is done has room for all
pub record IsKept (sites customers : List ℕ) (path : Path) (above : List OpenSplit) (work : Option Duals) (done : List Entry) (capacity nodes : ℕ) : Type 0 where
  pub whole : nodes_kept above work done ≡ flat (tree_of (nodes_kept above work done))
  pub sound : All (IsSound sites customers) (nodes_kept above work done)
  pub few : length (nodes_kept above work done) < 2 ^ 32
  pub leads : path ≡ base_of path above ++ steps_above above
  pub at_end : work ≡ None → above ≡ []
  pub fits : length (nodes_kept above work done) ≤ capacity
  pub counted : nodes ≡ length (nodes_kept above work done)

-- Which trees have few enough nodes that the text of each certificate on them is within the checker's limit.
use Rattle.std.specs.Prelude.{◌≢◌, ◌+◌, ◌*◌, ◌≤◌, [], ◌∷◌, ◌++◌, length, All}
use Rattle.location_terms.specs.declared.decision.Decision.{Decision}
use Rattle.location_terms.specs.declared.decision.Decision.TheVariants.{Opened, Closed, Yes, No}
use Rattle.location_terms.specs.declared.split.Split.{Split}
use Rattle.location_terms.specs.declared.split.Split.TheVariants.{Site, Lane}
use Rattle.location_terms.specs.Instance.{Instance}
use Rattle.location_terms.specs.Box.{Path}
use Rattle.location_terms.specs.Split.{first_step, second_step}
use Rattle.location_terms.specs.Tree.{Node, Leaf, Fork, Tree, nodes_of}
use Rattle.branch_tree.specs.declared.limits.TheConstants.{MAX_TREE_NUMBERS}

-- the tree's nodes are within their limit, and of one site and one customer there are at most as many as two splits make
pub record HasFewNodes (I : Instance) (t : Tree) : Type 0 where
  pub numbers : nodes_of t * (length I.sites + length I.customers) ≤ MAX_TREE_NUMBERS
  pub single : length I.sites + length I.customers ≤ 2 → nodes_of t ≤ 7

-- what a decision is on: a site, or a lane
abbrev pub split_of : Decision → Split
split_of (Opened s) = Site s
split_of (Closed s) = Site s
split_of (Yes s c) = Lane s c
split_of (No s c) = Lane s c

-- no decision of the path is on this
abbrev pub IsUndecided : Path → Split → Type 0
IsUndecided path split = All (λ step. split_of step ≢ split) path

-- below the path each split is on what its path hasn't decided
abbrev pub SplitsUndecided : Path → Node → Type 0
SplitsUndecided path (Leaf d) = Unit {0}
SplitsUndecided path (Fork split first second) =
    IsUndecided path split × SplitsUndecided (path ++ first_step split ∷ []) first × SplitsUndecided (path ++ second_step split ∷ []) second

-- no path of the tree decides a thing twice
abbrev pub DecidesOnce : Tree → Type 0
DecidesOnce t = SplitsUndecided [] t.root

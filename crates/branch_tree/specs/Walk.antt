-- A walk over the nodes of a tree in preorder, which keeps the path to the next node.
use Rattle.std.specs.Prelude.{ℕ, List, [], ◌∷◌, ◌++◌, Option, Some, None, unwrap_or, fold, nat_lt, min, if◌then◌else◌}
use Rattle.std.specs.Coded.{Coded, coded_list, coded×}
use Rattle.branch_tree.specs.declared.entry.Entry.{Entry}
use Rattle.branch_tree.specs.declared.entry.Entry.TheVariants.{End, Branch}
use Rattle.location_terms.specs.declared.decision.Decision.{Decision}
use Rattle.location_terms.specs.declared.decision.Decision.TheVariants.{Opened, Closed, Yes, No}
use Rattle.location_terms.specs.Instance.{Instance}
use Rattle.location_terms.specs.Box.{Path}
use Rattle.location_terms.specs.Split.{first_step}
use Rattle.location_terms.specs.Bound.{Duals}
use Rattle.location_terms.specs.Leaf.{leaf_bound}
use Rattle.location_terms.specs.Tree.{low_end}
use Rattle.dual_value.specs.Prepared.{decision_code}
use Rattle.branch_tree.specs.Preorder.{duals_code}

-- the decision of a split's second child, from that of its first
abbrev pub second_child : Decision → Option Decision
second_child (Closed s) = Some (Opened s)
second_child (No s c) = Some (Yes s c)
second_child (Opened s) = None
second_child (Yes s c) = None

abbrev pub one_step : Option Decision → Option Path
one_step (Some d) = Some (d ∷ [])
one_step None = None

abbrev pub turned_within : Decision → Option Path → Option Path
turned_within d (Some rest) = Some (d ∷ rest)
turned_within d None = one_step (second_child d)

-- the path to the second child of the last split whose first child the path is in
unfoldable pub turned : Path → Option Path
turned [] = None
turned (d ∷ ds) = turned_within d (turned ds)

-- where the walk goes when the tree at the path is done, and the root's path when all is done
unfoldable pub next : Path → Path
next path = unwrap_or (turned path) []

-- the path to the node after this one
abbrev pub passed : Path → Entry → Path
passed path (End d) = next path
passed path (Branch split) = path ++ first_step split ∷ []

-- the path to the node after this one, and none where it ends the whole tree
abbrev pub stepped : Path → Entry → Option Path
stepped path (End d) = turned path
stepped path (Branch split) = Some (path ++ first_step split ∷ [])

-- the path to the node after these, where the walk starts at this one, and none once the tree is whole
abbrev pub walked : Option Path → List Entry → Option Path
walked None [] = None
walked None (e ∷ es) = None
walked (Some path) [] = Some path
walked (Some path) (e ∷ es) = walked (stepped path e) es

-- a walk over the nodes, from this path, ends the whole tree with the last of them and not before
abbrev pub IsWhole : Option Path → List Entry → Type 0
IsWhole None [] = Unit {0}
IsWhole None (e ∷ es) = ⊥
IsWhole (Some path) [] = ⊥
IsWhole (Some path) (e ∷ es) = IsWhole (stepped path e) es

abbrev pub leaf_at : Path → Entry → List (Path × Duals)
leaf_at path (End d) = (path, d) ∷ []
leaf_at path (Branch split) = []

-- the leaves that a walk comes to from here on
abbrev pub leaves_ahead : Path → List Entry → List (Path × Duals)
leaves_ahead path [] = []
leaves_ahead path (e ∷ es) = leaf_at path e ++ leaves_ahead (passed path e) es

-- the leaf at hand, if one is left, and those that follow it
abbrev pub leaves_from : Path → Option Duals → List Entry → List (Path × Duals)
leaves_from path None es = []
leaves_from path (Some d) es = (path, d) ∷ leaves_ahead (next path) es

-- the code by which a struct can have leaves as its value
abbrev pub leaves_code : Coded (List (Path × Duals))
leaves_code = coded_list (coded× (coded_list decision_code) duals_code)

-- the lesser of the number and of the low end of a leaf with a scale
abbrev pub lowered : Instance → ℕ → Path × Duals → ℕ
lowered I least l = if nat_lt 0 l.1.q then min least (low_end (leaf_bound I l.0 l.1) l.1.q) else least

abbrev pub lowered_all : Instance → ℕ → List (Path × Duals) → ℕ
lowered_all I least leaves = fold (lowered I) least leaves

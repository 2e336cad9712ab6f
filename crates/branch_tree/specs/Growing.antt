-- A tree that grows from one leaf. Its last leaf in preorder that is not done is at work.
use Rattle.std.specs.Prelude.{ℕ, ◌+◌, ◌-◌, Option, slice_get, refl}
use Rattle.std.specs.Coded.{Coded, code_by, coded_ℕ, coded_list, coded×}
use Rattle.location_terms.specs.declared.split.Split.{Split}
use Rattle.location_terms.specs.Instance.{Instance}
use Rattle.location_terms.specs.Box.{Path}
use Rattle.location_terms.specs.Bound.{Duals}
use Rattle.location_terms.specs.Tree.{Node, Leaf, Fork, Tree, leaves_below}
use Rattle.dual_value.specs.Prepared.{decision_code}
use Rattle.branch_tree.specs.Preorder.{tree_code}
use Rattle.branch_tree.specs.Leaf.{replaced}
use Rattle.branch_tree.specs.Made.{leaf_of}

-- the tree that stands so far, the path to its root, and how many leaves are left: those that come first in preorder
pub record Growing : Type 0 where
  pub tree : Tree
  pub base : Path
  pub left : ℕ

-- the leaf at work, which is the last of those that are left: its path and its duals
abbrev pub leaf_at_work : Growing → Option (Path × Duals)
leaf_at_work g = slice_get (leaves_below g.base g.tree.root) (g.left - 1)

-- the same with another tree in the place of the leaf at work
abbrev pub worked : Growing → Node → Growing
worked g part = record g { tree = record g.tree { root = replaced g.tree.root (g.left - 1) part } }

-- one leaf at this path
abbrev pub growing_from : Instance → Path → Duals → Growing
growing_from I path d = record { tree = leaf_of I d; base = path; left = 1 }

-- the leaf at work is split in two leaves, of which the second is at work next
abbrev pub split_in_two : Growing → Split → Duals → Duals → Growing
split_in_two g split first second = record (worked g (Fork split (Leaf first) (Leaf second))) { left = g.left + 1 }

-- the code by which a struct can have a growing tree as its value
abbrev pub growing_code : Coded Growing
growing_code = code_by (Tree × (Path × ℕ)) (coded× tree_code (coded× (coded_list decision_code) coded_ℕ)) (λ g. (g.tree, (g.base, g.left))) (λ p. record { tree = p.0; base = p.1.0; left = p.1.1 }) (λ _. refl)

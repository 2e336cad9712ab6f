-- A tree whose leaves are gone through from the first to the last: each one stays, or a tree takes its place.
use Rattle.std.specs.Prelude.{ℕ, ◌+◌, List, [], ◌∷◌, ◌++◌, Option, length, drop, refl, reverse}
use Rattle.std.specs.Coded.{Coded, code_by, coded_ℕ, coded×}
use Rattle.location_terms.specs.Box.{Path}
use Rattle.location_terms.specs.Bound.{Duals}
use Rattle.location_terms.specs.Tree.{Node, Leaf, Fork, Tree, leaves_of}
use Rattle.branch_tree.specs.declared.entry.Entry.{Entry}
use Rattle.branch_tree.specs.Preorder.{tree_code}
use Rattle.branch_tree.specs.Leaf.{leaf_total, replaced_in}
use Rattle.branch_tree.specs.Walk.{leaves_code}
use Rattle.branch_tree.specs.OpenSplits.{ends_of}

-- the tree as it stands, how many of its leaves are settled, which come first in preorder, and the leaves that follow: the first of them is at hand
pub record Renewing : Type 0 where
  pub tree : Tree
  pub settled : ℕ
  pub ahead : List (Path × Duals)

-- no leaf is settled yet
abbrev pub renewing_from : Tree → Renewing
renewing_from t = record { tree = t; settled = 0; ahead = leaves_of t }

-- the leaf at hand stays
abbrev pub stayed : Renewing → Renewing
stayed r = record r { settled = r.settled + 1; ahead = drop 1 r.ahead }

-- the part takes the place of the leaf at hand
abbrev pub given : Renewing → Tree → Renewing
given r part = record { tree = replaced_in r.tree r.settled part; settled = r.settled + leaf_total part.root; ahead = drop 1 r.ahead }

-- the tree in which each part takes the place of a leaf, the first ones in preorder, and the parts that are left over
abbrev pub renewed : Node → List Node → Node × List Node
renewed (Leaf d) [] = (Leaf d, [])
renewed (Leaf d) (part ∷ parts) = (part, parts)
renewed (Fork split first second) parts =
    let one : Node × List Node = renewed first parts in
    let other : Node × List Node = renewed second one.1 in
    (Fork split one.0 other.0, other.1)

-- the leaves of all these
abbrev pub leaves_in : List Node → ℕ
leaves_in [] = 0
leaves_in (part ∷ parts) = leaf_total part + leaves_in parts

-- the first leaves are settled: these parts took their places
abbrev pub renewing_to : Tree → List Node → Renewing
renewing_to t parts = record { tree = record t { root = (renewed t.root parts).0 }; settled = leaves_in parts; ahead = drop (length parts) (leaves_of t) }

-- the code by which a struct can have this as its value
abbrev pub renewing_code : Coded Renewing
renewing_code = code_by (Tree × (ℕ × List (Path × Duals))) (coded× tree_code (coded× coded_ℕ leaves_code)) (λ r. (r.tree, (r.settled, r.ahead))) (λ p. record { tree = p.0; settled = p.1.0; ahead = p.1.1 }) (λ _. refl)

-- all the nodes in preorder: those that are settled, the leaf at hand, and those to come, which are kept the last one first
abbrev pub nodes_renewed : List Entry → Option Duals → List Entry → List Entry
nodes_renewed done leaf ahead = done ++ (ends_of leaf ++ reverse ahead)

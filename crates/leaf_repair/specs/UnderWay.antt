-- For private functions alone: no public contract cites this page.
-- A tree that is carried over node by node, in preorder, and what is known midway.
use Rattle.std.specs.Prelude.{◌≡◌, ℕ, ◌<◌, ◌^◌, Bool, true, false, List, [], ◌∷◌, ◌++◌, length, drop, reverse, flat_map, Option}
use Rattle.location_terms.specs.Instance.{Instance, site_ids, customer_ids}
use Rattle.location_terms.specs.Knapsack.{has_small_knapsacks}
use Rattle.location_terms.specs.Tree.{Node, Tree, IsTree, nodes_of}
use Rattle.branch_tree.specs.declared.entry.Entry.{Entry}
use Rattle.branch_tree.specs.Preorder.{flat}
use Rattle.branch_tree.specs.Begun.{Begun}
use Rattle.leaf_repair.specs.CarriedTree.{reduced}
use Rattle.leaf_repair.specs.Placed.{places_of}

-- the tree, the places of the instance's sites and customers among its ids, and whether whole knapsacks are small
pub record IsSource (I : Instance) (t : Tree) (sites customers : List (Option ℕ)) (is_small : Bool) : Type 0 where
  pub tree : IsTree t
  pub few : nodes_of t < 2 ^ 32
  pub sites_are : sites ≡ places_of t.sites (site_ids I)
  pub customers_are : customers ≡ places_of t.customers (customer_ids I)
  pub small : is_small ≡ has_small_knapsacks I

-- the nodes that are still to go over, of trees that are still to come: those of each one that is wanted
abbrev pub wanted_nodes : Instance → List ℕ → List ℕ → List Bool → List Node → List Entry
wanted_nodes I sites customers [] ahead = []
wanted_nodes I sites customers (w ∷ ws) [] = []
wanted_nodes I sites customers (true ∷ ws) (t ∷ ts) = flat (reduced I sites customers t) ++ wanted_nodes I sites customers ws ts
wanted_nodes I sites customers (false ∷ ws) (t ∷ ts) = wanted_nodes I sites customers ws ts

-- So many nodes of the tree are passed, and these have gone over. The flags say of each tree still to come whether it is wanted, the next one last.
pub record IsUnderWay (I : Instance) (t : Tree) (passed : ℕ) (over : List Entry) (wanted : List Bool) : Type 0 where
  pub ahead : List Node
  pub left : drop passed (flat t.root) ≡ flat_map flat ahead
  pub told : length ahead ≡ length wanted
  pub due : over ++ wanted_nodes I t.sites t.customers (reverse wanted) ahead ≡ flat (reduced I t.sites t.customers t.root)

-- the same of nodes that go over on the instance's ids
pub record IsCourse (I : Instance) (t : Tree) (passed : ℕ) (over : Begun) (wanted : List Bool) : Type 0 where
  pub sites : over.sites ≡ site_ids I
  pub customers : over.customers ≡ customer_ids I
  pub way : IsUnderWay I t passed over.entries wanted

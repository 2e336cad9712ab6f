use Rattle.std.proofs.Common.{◌≡◌, ◌++◌, map, drop, Some}
use Rattle.location_terms.specs.Tree.{leaves_of}
use Rattle.branch_tree.specs.Preorder.{flat}
use Rattle.leaf_book.specs.Book.{placed_leaf}
use Rattle.leaf_book.proofs.Placed.{duals_in}
use Rattle.leaf_book.proofs.places.leaf_places.Given as goal

-- the walk stands at the next leaf among the nodes to come, and the places of those before it are told
abbrev pub invariant-loop-node : goal.invariant-loop-node
invariant-loop-node l = record {
  ahead : map (λ a. a.1) l.walk ≡ duals_in (drop l.node (flat l.tree.root));
  told : map (placed_leaf l.tree) l.places.items ++ map (λ a. (a.0, Some a.1)) l.walk ≡ map (λ a. (a.0, Some a.1)) (leaves_of l.tree);
}

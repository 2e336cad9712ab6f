use Rattle.std.proofs.Common.{◌≡◌, ◌↔◌, ℕ, length}
use Rattle.std.specs.Prelude.{IsTrue, IfSome, slice_get}
use Rattle.location_terms.specs.Leaf.{LeafCloses}
use Rattle.location_terms.specs.Tree.{leaves_of}
use Rattle.leaf_repair.specs.CarriedTree.{carried_tree}
use Rattle.leaf_book.proofs.book.LeafBook.held.Given as goal

-- what is told of the first leaves
abbrev pub invariant-loop-leaf : goal.invariant-loop-leaf
invariant-loop-leaf l = record {
  len : length l.held.items ≡ l.leaf;
  told : (k : ℕ) → IfSome (slice_get l.held.items k) (λ h. IfSome (slice_get (leaves_of (carried_tree l.inst l.tree)) k) (λ a. IsTrue h ↔ LeafCloses l.inst a.0 a.1 l.target));
}

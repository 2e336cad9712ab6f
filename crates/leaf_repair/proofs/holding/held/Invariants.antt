use Rattle.std.proofs.Common.{◌≡◌, ◌≤◌, ℕ, length, drop}
use Rattle.std.specs.Prelude.{◌↔◌, IsTrue, IfSome, slice_get}
use Rattle.location_terms.specs.Leaf.{LeafCloses}
use Rattle.location_terms.specs.Tree.{leaves_of}
use Rattle.leaf_repair.proofs.holding.held.Given as goal

-- the leaves so far are told of
abbrev pub invariant-loop-target : goal.invariant-loop-target
invariant-loop-target l = record {
  bounds : l.bounds ≡ l.inst;
  within : length l.held.items ≤ length (leaves_of l.tree);
  ahead : l.walk ≡ drop (length l.held.items) (leaves_of l.tree);
  told : (k : ℕ) → IfSome (slice_get l.held.items k) (λ h. IfSome (slice_get (leaves_of l.tree) k) (λ a. IsTrue h ↔ LeafCloses l.inst a.0 a.1 l.target));
}

abbrev pub decreases-loop-target : goal.decreases-loop-target
decreases-loop-target l = length l.walk

-- Which leaves of a tree close.
use Rattle.std.specs.Prelude.{◌≡◌, ◌↔◌, ℕ, Bool, IsTrue, IfSome, List, length, Option, slice_get}
use Rattle.location_terms.specs.Instance.{Instance}
use Rattle.location_terms.specs.Leaf.{LeafCloses}
use Rattle.location_terms.specs.Tree.{Tree, leaves_of}

-- the list says of each leaf, in preorder, whether it closes against the target, or, where there is no target, without one
pub record TellsWhichClose (I : Instance) (t : Tree) (target : Option ℕ) (held : List Bool) : Type 0 where
  pub len : length held ≡ length (leaves_of t)
  pub each : (k : ℕ) → IfSome (slice_get held k) (λ h. IfSome (slice_get (leaves_of t) k) (λ l. IsTrue h ↔ LeafCloses I l.0 l.1 target))

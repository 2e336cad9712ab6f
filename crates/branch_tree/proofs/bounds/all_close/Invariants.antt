use Rattle.std.proofs.Common.{◌≡◌, length}
use Rattle.std.specs.Prelude.{All}
use Rattle.location_terms.specs.Leaf.{LeafCloses}
use Rattle.location_terms.specs.Tree.{HasLists}
use Rattle.branch_tree.proofs.bounds.all_close.Given as goal

-- the leaves so far closed: all do where the rest do, and the rest do where all do
abbrev pub invariant-loop-target : goal.invariant-loop-target
invariant-loop-target l = record {
  bounds : l.bounds ≡ l.fn.bounds;
  lists : All (λ a. HasLists (length l.inst.sites) (length l.inst.customers) a.1) l.walk;
  ahead : All (λ a. LeafCloses l.inst a.0 a.1 l.target) l.walk → All (λ a. LeafCloses l.inst a.0 a.1 l.target) l.fn.walk;
  back : All (λ a. LeafCloses l.inst a.0 a.1 l.target) l.fn.walk → All (λ a. LeafCloses l.inst a.0 a.1 l.target) l.walk;
}

abbrev pub decreases-loop-target : goal.decreases-loop-target
decreases-loop-target l = length l.walk

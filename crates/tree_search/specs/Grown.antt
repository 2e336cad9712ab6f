-- How a tree comes from another by a search, and what plans the search has to have sought. The target is the cost of the plan that the search was
-- handed; where there is none, only leaves of scale 0 close. The cost is that of the answer's plan.
use Rattle.std.specs.Prelude.{◌≡◌, ◌⊎◌, ℕ, ◌≤◌, [], ◌∷◌, ◌++◌, All, Option, Some, IsSomeAnd}
use Rattle.location_terms.specs.Instance.{Instance}
use Rattle.location_terms.specs.Plan.{Plan, cost_of}
use Rattle.location_terms.specs.Box.{Path}
use Rattle.location_terms.specs.Split.{first_step, second_step}
use Rattle.location_terms.specs.declared.form.LeafForm.TheVariants.{Prices}
use Rattle.location_terms.specs.Leaf.{LeafCloses}
use Rattle.location_terms.specs.Tree.{Node, Leaf, Fork, Tree, leaves_of}
use Rattle.dual_adjust.specs.Slackness.{tight_sites}
use Rattle.plan_search.specs.Packed.{packed}
use Rattle.tree_search.specs.Made.{IsMade}

-- below this path a leaf that closes against the target stands unchanged, and each other one is replaced by a tree that was made
abbrev pub IsGrownBelow : Instance → (target cost : Option ℕ) → Path → Node → Node → Type 0
IsGrownBelow I target cost path (Leaf d) new = (LeafCloses I path d target × (new ≡ Leaf d)) ⊎ ((LeafCloses I path d target → ⊥) × IsMade I target cost path d path new)
IsGrownBelow I target cost path (Fork split first second) (Fork split_now first_now second_now) =
    (split ≡ split_now) × IsGrownBelow I target cost (path ++ first_step split ∷ []) first first_now × IsGrownBelow I target cost (path ++ second_step split ∷ []) second second_now
IsGrownBelow I target cost path old new = ⊥

-- the new tree stands on the same ids and has the old one's splits, and each leaf of the old one that doesn't close with the target is replaced by a tree that was made for it
pub record IsGrownFrom (I : Instance) (target cost : Option ℕ) (old new : Tree) : Type 0 where
  pub sites : new.sites ≡ old.sites
  pub customers : new.customers ≡ old.customers
  pub root : IsGrownBelow I target cost [] old.root new.root

-- At each leaf by prices of scale 1 or more, where packing on its tight sites gives a plan, there is a plan that costs at most as much. A leaf by whole knapsacks
-- closes, so that there it follows from what bounds are.
abbrev pub PlansWereSought : Instance → Tree → Option Plan → Type 0
PlansWereSought I t plan =
    All (λ l. l.1.form ≡ Prices → 1 ≤ l.1.q → (P : Plan) → packed I l.0 (tight_sites I l.0 l.1) ≡ Some P → IsSomeAnd plan (λ Q. cost_of I Q ≤ cost_of I P)) (leaves_of t)

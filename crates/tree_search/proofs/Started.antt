-- A search from one leaf of zeros, without a plan.
use Rattle.std.proofs.Common.{◌≡◌, ◌↔◌, ℕ, zero, suc, false, [], ◌∷◌, None, refl, sym, subst, inl, inr, arith}
use Rattle.std.specs.Prelude.{IfSome, IsTrue, slice_get}
use Rattle.std.proofs.lemmas.List.Elements.{All-nil, All-cons}
use Rattle.location_terms.specs.Instance.{Instance}
use Rattle.location_terms.specs.Box.{Path}
use Rattle.location_terms.specs.Bound.{Duals}
use Rattle.location_terms.specs.Fit.{BoundCloses}
use Rattle.location_terms.specs.Leaf.{leaf_bound, LeafFits, LeafCloses}
use Rattle.location_terms.specs.Tree.{Tree, leaves_of}
use Rattle.dual_value.specs.Zeros.{zeros}
use Rattle.dual_value.proofs.Zeros.{zeros_fit}
use Rattle.branch_tree.specs.Made.{leaf_of}
use Rattle.tree_search.specs.Answer.{IsSearchStart, AreHeld, IsWithin}

module _ (I : Instance) where
  -- a leaf of zeros at scale 1 doesn't close without a target
  open_at_zeros : LeafCloses I [] (zeros I 1) None → ⊥
  open_at_zeros closes = by closes.closed
    where
      by : BoundCloses (leaf_bound I [] (zeros I 1)) 1 None → ⊥
      by (inl ray) = absurd (omega (arith, ray.0))
      by (inr scaled) = scaled.1

  not_held : IsTrue false ↔ LeafCloses I [] (zeros I 1) None
  not_held = (λ wrong. absurd cc, λ closes. absurd (open_at_zeros closes))

  pub at_zeros_told : AreHeld I (leaf_of I (zeros I 1)) None (false ∷ [])
  at_zeros_told = record { len = refl; each = by }
    where
      by : (k : ℕ) → IfSome (slice_get (false ∷ []) k) (λ h. IfSome (slice_get (leaves_of (leaf_of I (zeros I 1))) k) (λ l. IsTrue h ↔ LeafCloses I l.0 l.1 None))
      by zero = not_held
      by (suc k) = tt

  at_zeros : (budget : ℕ) → IsWithin I budget → IsSearchStart I (leaf_of I (zeros I 1)) (false ∷ []) None budget
  at_zeros budget small = record {
    stands = record { sites = refl; customers = refl };
    fit = All-cons (λ (l : Path × Duals). LeafFits I l.1) ([], zeros I 1) [] (record { numbers = zeros_fit I 1 (omega arith); prices = tt; knapsacks = tt }) (All-nil (λ (l : Path × Duals). LeafFits I l.1));
    few = inr refl;
    feasible = tt;
    each_told = at_zeros_told;
    within = small;
  }

  pub started : (budget : ℕ) (tree : Tree) → IsWithin I budget → tree ≡ leaf_of I (zeros I 1) → IsSearchStart I tree (false ∷ []) None budget
  started budget tree small is = subst (λ t. IsSearchStart I t (false ∷ []) None budget) (sym is) (at_zeros budget small)

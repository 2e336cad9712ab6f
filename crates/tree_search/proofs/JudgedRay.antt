-- A ray that is judged by its bound.
use Rattle.std.proofs.Common.{◌≡◌, ℕ, ◌<◌, ◌≤◌, sym, subst, arith, List, length, Option, None, ℤ, pos, ◌≤ℤ◌}
use Rattle.std.specs.Prelude.{All, unsigned_abs, slice_index}
use Rattle.location_terms.specs.Instance.{Instance, site_at}
use Rattle.location_terms.specs.Box.{Path}
use Rattle.location_terms.specs.declared.form.LeafForm.TheVariants.{Prices}
use Rattle.location_terms.specs.Bound.{Duals, bound_of}
use Rattle.location_terms.specs.Fit.{DualsFit, BoundCloses}
use Rattle.location_terms.specs.declared.limits.TheConstants.{MAX_VALUE, MAX_MULTIPLIER}
use Rattle.branch_tree.proofs.LowEnd.{ray_above}
use Rattle.tree_search.specs.Made.{IsMadeLeaf}

module _ (I J : Instance) (same : J ≡ I) (path : Path) (v : List ℤ) (u : List ℕ) where
  abbrev ray : Duals
  ray = record { form = Prices; q = 0; nu = pos 0; v = v; u = u }

  -- it closes its box, where its numbers fit
  pub judged_is_made : length v ≡ length J.customers → All (λ x. unsigned_abs x ≤ MAX_VALUE) v → length u ≡ length J.sites → All (λ x. x ≤ MAX_MULTIPLIER) u
      → ((i : ℕ) → i < length J.sites → (site_at J i).cap ≡ None → slice_index u i ≡ 0) → (bound : ℤ) → bound ≡ bound_of I path ray → BoundCloses bound 0 None
      → (d : Duals) → d ≡ ray → (cost : Option ℕ) (old_path : Path) (old : Duals) → IsMadeLeaf I cost old_path old path d
  judged_is_made long small count few unpriced bound is closes d made cost old_path old =
      let fit : DualsFit J ray = record {
        in_limits = record { scale = omega arith; count_price = omega arith; values = small; multipliers = few };
        of_instance = record { customers = long; sites = count; unpriced = unpriced };
      } in
      subst (IsMadeLeaf I cost old_path old path) (sym made)
      (record { fit = subst (λ K. DualsFit K ray) same fit; ray = λ _. subst (λ x. pos 1 ≤ℤ x) is (ray_above bound closes); scaled = λ some. absurd (omega (arith, some)) })

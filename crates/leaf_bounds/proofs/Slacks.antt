-- Bounds in one form and the other.
use Rattle.std.proofs.Common.{◌≡◌, ◌≤◌, refl, sym, ap, ◌∙◌, arith, ℤ, pos, ◌≤ℤ◌}
use mir.Syntax.{w128}
use mir.Val.{to_z, of_z}
use Rattle.std.specs.Int.RustNames.{unsigned_abs}
use Rattle.std.proofs.lemmas.Int.{ints}
use Rattle.location_terms.specs.Instance.{Instance}
use Rattle.location_terms.specs.Box.{Path}
use Rattle.location_terms.specs.Bound.{Duals, bound_of}
use Rattle.location_terms.specs.Leaf.{bound_in, leaf_bound}
use Rattle.location_terms.specs.declared.form.LeafForm.{LeafForm}
use Rattle.location_terms.specs.declared.form.LeafForm.TheVariants.{Prices}
use Rattle.dual_value.specs.declared.bounds.TheConstants.{MAX_BOUND}
use Rattle.dual_value.proofs.Sizes.{abs_from, kept}

pub best_small : (best : ℤ) → pos 0 ≤ℤ best → best ≤ℤ pos 1000000000000000000000000000000000 → unsigned_abs best ≤ 1000000000000000000000000000000000
best_small best low high = abs_from best 1000000000000000000000000000000000 high (omega (arith, ints, low))

in_prices : (I : Instance) (path : Path) (d : Duals) → bound_of I path d ≡ bound_in Prices I path d
in_prices I path d = refl

-- a bound by prices is that of a leaf that takes prices
pub bound_by_prices : (J I : Instance) (path' path : Path) (d : Duals) (bound : ℤ) (form : LeafForm) → form ≡ d.form → form ≡ Prices → J ≡ I → path' ≡ path → bound ≡ bound_of J path' d → unsigned_abs bound ≤ MAX_BOUND
    → to_z w128 (of_z w128 bound) ≡ leaf_bound I path d
bound_by_prices J I path' path d bound form is prices same there exact small =
    kept bound MAX_BOUND small (omega arith)
    ∙ exact
    ∙ (λ k. bound_of (same k) (there k) d)
    ∙ in_prices I path d
    ∙ ap (λ (f : LeafForm). bound_in f I path d) (sym prices ∙ is)

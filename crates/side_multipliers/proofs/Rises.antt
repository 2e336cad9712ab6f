-- What rises and rounds leave of the duals at work.
use Rattle.std.proofs.Common.{◌≡◌, ℕ, refl, sym, subst, ◌∙◌, arith, Bool, true, false, ℤ, ◌≤ℤ◌}
use Rattle.std.proofs.lemmas.Int.{by_lt_z, ints}
use Rattle.location_terms.specs.Instance.{Instance}
use Rattle.location_terms.specs.Box.{Path}
use Rattle.location_terms.specs.Bound.{Duals, bound_of}
use Rattle.dual_value.specs.Prepared.{Prepared}
use Rattle.dual_value.specs.Scales.{IsGreater}
use Rattle.dual_value.proofs.Sizes.{le_times}
use Rattle.dual_ascent.specs.Kept.{Keeps}
use Rattle.dual_adjust.specs.Present.{Present, HasAscended}
use Rattle.dual_adjust.specs.Adjusted.{IsRiseAbove}
use Rattle.side_multipliers.specs.Better.{IsNoWorse}
use Rattle.side_multipliers.specs.Improved.{IsImproved}

-- a greater bound at the same scale
above : (q : ℕ) (x y : ℤ) → IsGreater y q x q → x ≤ℤ y
above q x y h = by_lt_z y x (λ less. let low = le_times q y x (omega (arith, ints, less)) in absurd (omega (arith, ints, h, low))) (λ within. within)

module _ (I : Instance) (path : Path) where
  pub same_is_no_worse : (p : Present) → HasAscended I path p → IsNoWorse I path p p
  same_is_no_worse p risen = record { scale = refl; risen = risen; bound = omega (arith, ints) }

  pub no_worse_again : (p q r : Present) → IsNoWorse I path p q → IsNoWorse I path q r → IsNoWorse I path p r
  no_worse_again p q r one two = record { scale = two.scale ∙ one.scale; risen = two.risen; bound = omega (arith, ints, one.bound, two.bound) }

  -- a rise above the bound of the duals at work, at their scale
  pub rise_is_no_worse : (start : Duals) (old new : Present) (bound : ℤ) (scale : ℕ) (rises : Bool) → HasAscended I path old → start.q ≡ old.duals.q → scale ≡ start.q → bound ≡ bound_of I path old.duals → IsRiseAbove I path start old new bound scale rises → IsNoWorse I path old new
  rise_is_no_worse start old new bound scale true risen same at is rise =
      let kept : new.duals.q ≡ start.q = rise.1.scale in
      let greater : IsGreater (bound_of I path new.duals) start.q (bound_of I path old.duals) start.q = subst (λ b. IsGreater (bound_of I path new.duals) start.q b start.q) is (subst (λ s. IsGreater (bound_of I path new.duals) start.q bound s) at (subst (λ n. IsGreater (bound_of I path new.duals) n bound scale) kept rise.2)) in
      record { scale = kept ∙ same; risen = rise.0; bound = above start.q (bound_of I path old.duals) (bound_of I path new.duals) greater }
  rise_is_no_worse start old new bound scale false risen same at is rise =
      subst (λ (p : Present). IsNoWorse I path old p) (sym rise.0) (same_is_no_worse old risen)

-- an ascent of the start in the box of the path, and what was no worse then
pub improved : (I : Instance) (path : Path) (boxed : Prepared) → boxed ≡ record { instance = I; path = path } → (start : Duals) (from p q : Present) → from.duals ≡ start → Keeps boxed.instance boxed.path from.duals p.duals → IsNoWorse boxed.instance boxed.path p q → (d : Duals) → d ≡ q.duals → IsImproved I path start d
improved I path boxed is start from p q begun keeps better d ends =
    let kept : Keeps I path start p.duals = subst (λ (b : Prepared). Keeps b.instance b.path start p.duals) is (subst (λ (e : Duals). Keeps boxed.instance boxed.path e p.duals) begun keeps) in
    let last : IsNoWorse I path p q = subst (λ (b : Prepared). IsNoWorse b.instance b.path p q) is better in
    subst (λ (e : Duals). IsImproved I path start e) (sym ends) (record { scale = last.scale ∙ kept.scale; tame = last.risen.tame; blocked = last.risen.blocked; bound = omega (arith, ints, kept.bound, last.bound) })

-- The scale of the plain ascent, and that its bound is not below 0.
use Rattle.std.proofs.Common.{◌≡◌, ℕ, ◌≤◌, Bool, true, false, get_or, Option, Some, None, refl, ap, pos, ◌≤ℤ◌, arith}
use Rattle.std.specs.Prelude.{is_some, if◌then◌else◌}
use Rattle.std.proofs.lemmas.Bool.{both_ways, false_from_ne_true}
use Rattle.std.proofs.lemmas.List.Elements.{All-weaker}
use Rattle.std.proofs.lemmas.List.Folds.{list_any_none, list_any_at}
use Rattle.location_terms.specs.Instance.{Instance, IsValid}
use Rattle.location_terms.specs.Box.{Path}
use Rattle.location_terms.specs.Bound.{Duals, bound_of}
use Rattle.location_terms.specs.declared.limits.TheConstants.{MAX_SCALE}
use Rattle.dual_ascent.proofs.Plain.{plain_bound}
use Rattle.plan_search.specs.InBox.{HasNoCaps}
use Rattle.tree_search.specs.Made.{has_cap, plain_scale, IsPlainAscent}

scale_fits : (b : Bool) → (1 ≤ (if b then 1000 else 1)) × ((if b then 1000 else 1) ≤ MAX_SCALE)
scale_fits true = (omega arith, omega arith)
scale_fits false = (omega arith, omega arith)

-- the scale of the plain ascent is within its limits
pub plain_scale_fits : (I : Instance) → (1 ≤ plain_scale I) × (plain_scale I ≤ MAX_SCALE)
plain_scale_fits I = scale_fits (has_cap I)

-- without capacities it is 1
pub none_capped : (I : Instance) → HasNoCaps I → has_cap I ≡ false
none_capped I no_caps = list_any_none (λ s. is_some s.cap) I.sites (All-weaker (λ s. s.cap ≡ None) (λ s. is_some s.cap ≡ false) (λ s e. ap is_some e) I.sites no_caps)

pub scale_is_one : (I : Instance) → HasNoCaps I → plain_scale I ≡ 1
scale_is_one I no_caps = ap (λ (b : Bool). if b then 1000 else 1) (none_capped I no_caps)

none_of : (o : Option ℕ) → is_some o ≡ false → o ≡ None
none_of None e = refl
none_of (Some x) e = cc

-- where no site has a capacity by the test, none has one
pub uncapped : (I : Instance) → has_cap I ≡ false → HasNoCaps I
uncapped I none k d b =
    none_of (get_or I.sites k d).cap (false_from_ne_true _ (λ some. both_ways (has_cap I) none (list_any_at (λ s. is_some s.cap) I.sites k d b some)))

-- and with one it is 1,000

scale_by : (b : Bool) (high low : ℕ) → (b ≡ false → ⊥) → (if b then high else low) ≡ high
scale_by true high low some = refl
scale_by false high low some = absurd (some refl)

pub scale_with_caps : (I : Instance) → (HasNoCaps I → ⊥) → plain_scale I ≡ 1000
scale_with_caps I some = scale_by (has_cap I) 1000 1 (λ none. some (uncapped I none))

pub bound_at_zero : (I : Instance) (path : Path) → IsValid I → (d : Duals) → IsPlainAscent I path d → pos 0 ≤ℤ bound_of I path d
bound_at_zero I path valid d ascent = plain_bound I path (plain_scale I) (plain_scale_fits I).0 (plain_scale_fits I).1 valid d ascent

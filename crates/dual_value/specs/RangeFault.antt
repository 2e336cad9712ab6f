-- The parts of being within the limits, and which one fails first.
use Rattle.std.specs.Prelude.{◌≡◌, ℕ, ◌<◌, ◌≤◌, All, None, length}
use Rattle.std.specs.Int.RustNames.{unsigned_abs}
use Rattle.location_terms.specs.Instance.{Instance, site_at}
use Rattle.location_terms.specs.Bound.{Duals, u_at}
use Rattle.location_terms.specs.declared.limits.TheConstants.{MAX_SCALE, MAX_VALUE, MAX_MULTIPLIER}
use Rattle.dual_value.specs.declared.fit.RangeFault.{RangeFault}
use Rattle.dual_value.specs.declared.fit.RangeFault.TheVariants.{Scale, Value, Multiplier, NoCapacity}

abbrev pub ScaleFits : Duals → Type 0
ScaleFits d = d.q ≤ MAX_SCALE

abbrev pub ValuesFit : Duals → Type 0
ValuesFit d = (unsigned_abs d.nu ≤ MAX_VALUE) × All (λ v. unsigned_abs v ≤ MAX_VALUE) d.v

abbrev pub MultipliersFit : Duals → Type 0
MultipliersFit d = All (λ u. u ≤ MAX_MULTIPLIER) d.u

-- no price of a capacity at a site without one
abbrev pub IsUnpriced : Instance → Duals → Type 0
IsUnpriced I d = (i : ℕ) → i < length I.sites → (site_at I i).cap ≡ None → u_at d i ≡ 0

-- the fault's part fails, and each part before it holds
abbrev pub IsFirstRangeFault : Instance → Duals → RangeFault → Type 0
IsFirstRangeFault I d Scale = ScaleFits d → ⊥
IsFirstRangeFault I d Value = ScaleFits d × (ValuesFit d → ⊥)
IsFirstRangeFault I d Multiplier = ScaleFits d × ValuesFit d × (MultipliersFit d → ⊥)
IsFirstRangeFault I d NoCapacity = ScaleFits d × ValuesFit d × MultipliersFit d × (IsUnpriced I d → ⊥)

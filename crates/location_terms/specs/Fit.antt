-- Duals within the limits in which the suite's sums fit their types, and when they close a box.
use Rattle.std.specs.Prelude.{◌≡◌, ◌⊎◌, ℕ, ◌*◌, ◌≤◌, All, Option, IsSomeAnd, ℤ, pos, ◌-ℤ◌, ◌*ℤ◌, ◌≤ℤ◌, ◌<ℤ◌, unsigned_abs}
use Rattle.location_terms.specs.Instance.{Instance}
use Rattle.location_terms.specs.Bound.{Duals, AreDualsOf}
use Rattle.location_terms.specs.declared.limits.TheConstants.{MAX_SCALE, MAX_VALUE, MAX_MULTIPLIER, MAX_TAME}

-- the numbers of a leaf's duals are within their limits
pub record AreInLimits (d : Duals) : Type 0 where
  pub scale : d.q ≤ MAX_SCALE
  pub count_price : unsigned_abs d.nu ≤ MAX_VALUE
  pub values : All (λ v. unsigned_abs v ≤ MAX_VALUE) d.v
  pub multipliers : All (λ u. u ≤ MAX_MULTIPLIER) d.u

-- duals of the instance, within their limits
pub record DualsFit (I : Instance) (d : Duals) : Type 0 where
  pub in_limits : AreInLimits d
  pub of_instance : AreDualsOf I d

-- duals from which an ascent never leaves the limits
pub record AreTame (I : Instance) (d : Duals) : Type 0 where
  pub fit : DualsFit I d
  pub scaled : 1 ≤ d.q
  pub count_price : unsigned_abs d.nu ≤ MAX_TAME
  pub demand_prices : All (λ u. All (λ c. u * c.demand ≤ MAX_TAME) I.customers) d.u

-- A bound of at least 1 at scale 0 shows that the box is empty. A bound above q (T - 1) shows that no plan of the box
-- costs less than T, since costs are whole.
abbrev pub BoundCloses : ℤ → ℕ → Option ℕ → Type 0
BoundCloses bound q target = ((q ≡ 0) × (pos 1 ≤ℤ bound)) ⊎ ((1 ≤ q) × IsSomeAnd target (λ T. (pos q *ℤ (pos T -ℤ pos 1)) <ℤ bound))

-- What an adjustment comes to.
use Rattle.std.specs.Prelude.{◌≡◌, ℕ, ◌<◌, ◌≤◌, Bool, true, false, IsTrue, length, Option, None, Some, ℤ, ◌≤ℤ◌, ◌<ℤ◌}
use Rattle.location_terms.specs.Instance.{Instance}
use Rattle.location_terms.specs.Box.{Path}
use Rattle.location_terms.specs.Bound.{Duals, bound_of}
use Rattle.location_terms.specs.Fit.{AreTame}
use Rattle.dual_value.specs.Scales.{IsGreater}
use Rattle.dual_ascent.specs.Ascent.{IsAscended, IsBlocked}
use Rattle.dual_ascent.specs.Kept.{Keeps}
use Rattle.dual_adjust.specs.Slackness.{tight_sites, is_violating}
use Rattle.dual_adjust.specs.Adjustment.{IsCandidate, Gains}
use Rattle.dual_adjust.specs.Present.{Present, HasAscended, HaveSamePrices}

-- After so many rounds the duals have the prices of the start, are tame and their own ascent, and every customer is
-- blocked. The bound is no lower than that of the start, and than that of its ascent; after a round it is greater than the
-- latter wherever that ascent gains.
pub record IsAdjusted (I : Instance) (path : Path) (rounds : ℕ) (start result : Duals) : Type 0 where
  pub same_prices : HaveSamePrices start result
  pub tame : AreTame I result
  pub ascended : IsAscended I path result result
  pub blocked : IsBlocked I path result
  pub bound : bound_of I path start ≤ℤ bound_of I path result
  pub ascent : (a : Duals) → IsAscended I path start a → bound_of I path a ≤ℤ bound_of I path result
  pub gain : (a : Duals) → IsAscended I path start a → 1 ≤ rounds → Gains I path a → bound_of I path a <ℤ bound_of I path result

-- duals with the same prices, a greater bound, and all that an ascent gives
pub record IsGain (I : Instance) (path : Path) (d result : Duals) : Type 0 where
  pub gains : Gains I path d
  pub same_prices : HaveSamePrices d result
  pub tame : AreTame I result
  pub ascended : IsAscended I path result result
  pub blocked : IsBlocked I path result
  pub greater : bound_of I path d <ℤ bound_of I path result

-- duals of a greater bound, or that no step gains
abbrev pub IsFirstGain : Instance → Path → Duals → Option Duals → Type 0
IsFirstGain I path d None = Gains I path d → ⊥
IsFirstGain I path d (Some e) = IsGain I path d e

-- lowering the customer's dual gains nothing: either it pays no more than one tight site, or its candidate has no greater bound
abbrev pub GainsNothing : Instance → Path → Duals → ℕ → Type 0
GainsNothing I path d j = IsTrue (is_violating I path d (tight_sites I path d) j) → (e : Duals) × IsCandidate I path d j e × (bound_of I path e ≤ℤ bound_of I path d)

-- the present after some trials has the same prices, and is its own ascent
pub record IsTried (I : Instance) (path : Path) (old new : Present) : Type 0 where
  pub same_prices : HaveSamePrices old.duals new.duals
  pub risen : HasAscended I path new

-- a step from the duals gains, and those that took their place have a greater bound
pub record HasGained (I : Instance) (path : Path) (d e : Duals) : Type 0 where
  pub gains : Gains I path d
  pub greater : bound_of I path d <ℤ bound_of I path e

-- after a trial with the customer: it gained, or the duals stay
abbrev pub IsTrial : Instance → Path → Duals → Duals → ℕ → Bool → Type 0
IsTrial I path d e j true = HasGained I path d e
IsTrial I path d e j false = (e ≡ d) × GainsNothing I path d j

-- after the trials with the customers from a place on: the place behind the first that gained, or none did and the duals stay
abbrev pub AreTrials : Instance → Path → Duals → Duals → ℕ → Option ℕ → Type 0
AreTrials I path d e from None = (e ≡ d) × ((j : ℕ) → from ≤ j → j < length I.customers → GainsNothing I path d j)
AreTrials I path d e from (Some next) = (from < next) × (next ≤ length I.customers) × HasGained I path d e

-- after a round: the bound is greater, or no step gains and the duals stay
abbrev pub IsRound : Instance → Path → Duals → Duals → Bool → Type 0
IsRound I path d e true = bound_of I path d <ℤ bound_of I path e
IsRound I path d e false = (e ≡ d) × (Gains I path d → ⊥)

-- the ascent of the start took the place of the old duals, and its bound is greater than the one given; or the old ones stay, since it isn't
abbrev pub IsRiseAbove : Instance → Path → Duals → Present → Present → ℤ → ℕ → Bool → Type 0
IsRiseAbove I path start old new bound scale true =
    HasAscended I path new × Keeps I path start new.duals × IsGreater (bound_of I path new.duals) new.duals.q bound scale × IsAscended I path start new.duals
IsRiseAbove I path start old new bound scale false =
    (new ≡ old) × ((risen : Duals) × Keeps I path start risen × (IsGreater (bound_of I path risen) risen.q bound scale → ⊥) × IsAscended I path start risen)

-- What duals come to when the prices of capacities and of the number of open sites may change.
use Rattle.std.specs.Prelude.{◌≡◌, ◌≤ℤ◌}
use Rattle.location_terms.specs.Instance.{Instance}
use Rattle.location_terms.specs.Box.{Path}
use Rattle.location_terms.specs.Bound.{Duals, bound_of}
use Rattle.location_terms.specs.Fit.{AreTame}
use Rattle.dual_ascent.specs.Ascent.{IsBlocked}

-- the scale stays, the duals are tame, every customer is blocked, and the bound isn't lower
pub record IsImproved (I : Instance) (path : Path) (start result : Duals) : Type 0 where
  pub scale : result.q ≡ start.q
  pub tame : AreTame I result
  pub blocked : IsBlocked I path result
  pub bound : bound_of I path start ≤ℤ bound_of I path result

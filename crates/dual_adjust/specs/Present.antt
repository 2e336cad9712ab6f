-- The duals that an adjustment has in hand, and the arrays of the ascent that raised them.
use Rattle.std.specs.Prelude.{◌≡◌}
use Rattle.location_terms.specs.Instance.{Instance}
use Rattle.location_terms.specs.Box.{Path}
use Rattle.location_terms.specs.Bound.{Duals}
use Rattle.location_terms.specs.Fit.{AreTame}
use Rattle.dual_value.specs.Slacks.{AreSlacks}
use Rattle.dual_ascent.specs.Ascent.{IsAscended, IsBlocked}
use Rattle.dual_ascent.specs.Work.{Work, IsWorkFor}

pub record Present : Type 0 where
  pub duals : Duals
  pub work : Work

-- tame duals of the instance, and arrays of its size: an ascent may start from them
pub record IsStart (I : Instance) (p : Present) : Type 0 where
  pub tame : AreTame I p.duals
  pub work : IsWorkFor I p.work

-- duals that are their own ascent, with their slacks
pub record HasAscended (I : Instance) (path : Path) (p : Present) : Type 0 where
  pub tame : AreTame I p.duals
  pub ascended : IsAscended I path p.duals p.duals
  pub blocked : IsBlocked I path p.duals
  pub slacks : AreSlacks I path p.duals p.work.slacks
  pub work : IsWorkFor I p.work

-- the form, the scale, the price on the number of sites and the prices of capacities are the same
pub record HaveSamePrices (d e : Duals) : Type 0 where
  pub form : e.form ≡ d.form
  pub scale : e.q ≡ d.q
  pub count_price : e.nu ≡ d.nu
  pub prices : e.u ≡ d.u

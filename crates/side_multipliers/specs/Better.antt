-- For private functions alone: no public contract cites this page.
-- What a round of steps leaves of the duals at work.
use Rattle.std.specs.Prelude.{◌≡◌, ◌≤ℤ◌}
use Rattle.location_terms.specs.Instance.{Instance}
use Rattle.location_terms.specs.Box.{Path}
use Rattle.location_terms.specs.Bound.{bound_of}
use Rattle.dual_adjust.specs.Present.{Present, HasAscended}

-- they have ascended, at the same scale, and their bound isn't lower
pub record IsNoWorse (I : Instance) (path : Path) (old new : Present) : Type 0 where
  pub scale : new.duals.q ≡ old.duals.q
  pub risen : HasAscended I path new
  pub bound : bound_of I path old.duals ≤ℤ bound_of I path new.duals

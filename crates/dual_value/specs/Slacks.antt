-- The slacks of all sites, as they are kept while duals change.
use Rattle.std.specs.Prelude.{◌≡◌, ℕ, ◌<◌, List, length, ℤ, pos, slice_index_or}
use Rattle.location_terms.specs.Instance.{Instance}
use Rattle.location_terms.specs.Box.{Path}
use Rattle.location_terms.specs.Bound.{Duals, slack_of}

-- these numbers are the slacks of the sites, by place
pub record AreSlacks (I : Instance) (path : Path) (d : Duals) (slacks : List ℤ) : Type 0 where
  pub count : length slacks ≡ length I.sites
  pub each : (i : ℕ) → i < length I.sites → slice_index_or slacks i (pos 0) ≡ slack_of I path d i

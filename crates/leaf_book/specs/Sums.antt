-- The slacks and the bound of a leaf that takes prices of capacities.
use Rattle.std.specs.Prelude.{ℕ, List, length, map, ℤ}
use Rattle.std.specs.List.{range_with_len}
use Rattle.location_terms.specs.Instance.{Instance}
use Rattle.location_terms.specs.Box.{Path}
use Rattle.location_terms.specs.Bound.{Duals, slack_of, bound_of}

-- what is kept of a leaf: its scale, the slack of each site, by place, and the bound
pub record LeafSums : Type 0 where
  pub q : ℕ
  pub slacks : List ℤ
  pub bound : ℤ

-- the sums of a leaf with this path and these duals, which are by prices
abbrev pub sums_of : Instance → Path × Duals → LeafSums
sums_of I l = record { q = l.1.q; slacks = map (slack_of I l.0 l.1) (range_with_len 0 (length I.sites)); bound = bound_of I l.0 l.1 }

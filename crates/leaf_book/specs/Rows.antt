-- For private functions alone: no public contract cites this page.
-- A row, which holds the sums of one leaf.
use Rattle.std.specs.Prelude.{ℕ, ◌≤◌, All}
use Rattle.std.specs.Int.RustNames.{unsigned_abs}
use Rattle.location_terms.specs.declared.limits.TheConstants.{MAX_SCALE}
use Rattle.dual_value.specs.declared.bounds.TheConstants.{MAX_SLACK, MAX_BOUND}
use Rattle.leaf_book.specs.Sums.{LeafSums}
use Rattle.leaf_book.specs.declared.row.Row.TheInside.{Inside}

-- the sums, and for how many sites there is room
pub record Held : Type 0 where
  pub sums : LeafSums
  pub room : ℕ

-- its numbers are those of some leaf within the limits
pub record IsSmallRow (a : Inside) : Type 0 where
  pub scale : a.q ≤ MAX_SCALE
  pub slacks : All (λ slack. unsigned_abs slack ≤ MAX_SLACK) a.slacks.items
  pub bound : unsigned_abs a.bound ≤ MAX_BOUND

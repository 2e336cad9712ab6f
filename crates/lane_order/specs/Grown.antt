-- For private functions alone: no public contract cites this page.
-- Lists of lanes with more room than before.
use Rattle.std.specs.Prelude.{◌≡◌, ℕ, ◌<◌, ◌≤◌, List, length, slice_index_or}
use Rattle.lane_order.specs.Listed.{Listed}

-- the same lanes, and no less room
pub record IsGrown (old new : Listed) : Type 0 where
  pub lanes : new.lanes ≡ old.lanes
  pub room : old.spare ≤ new.spare

pub record HaveGrown (old new : List Listed) : Type 0 where
  pub count : length new ≡ length old
  pub each : (j : ℕ) (d : Listed) → j < length old → IsGrown (slice_index_or old j d) (slice_index_or new j d)

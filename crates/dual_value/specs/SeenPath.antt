-- For private functions alone: no public contract cites this page.
-- A path that was looked at once.
use Rattle.std.specs.Prelude.{◌≡◌, ℕ}
use Rattle.std.specs.List.{list_any}
use Rattle.location_terms.specs.Instance.{Instance}
use Rattle.location_terms.specs.Box.{bars_lane, is_torn}
use Rattle.dual_value.specs.declared.seen_path.SeenPath.{SeenPath}

-- what was found out of the path is so
pub record IsSeen (I : Instance) (p : SeenPath) : Type 0 where
  pub torn : p.torn ≡ is_torn I p.steps.now
  pub barring : (s c : ℕ) → list_any (bars_lane s c) p.lane_steps.now ≡ list_any (bars_lane s c) p.steps.now

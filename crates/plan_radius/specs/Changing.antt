-- For private functions alone: no public contract cites this page.
-- Lanes that are changed one after another.
use Rattle.std.specs.Prelude.{◌≡◌, ◌⊎◌, ℕ, Option, option_map, None, if◌then◌else◌}
use Rattle.location_terms.specs.Instance.{Instance, lane}
use Rattle.plan_radius.specs.Cheaper.{is_cheaper}
use Rattle.plan_radius.specs.declared.lane_change.LaneChange.{LaneChange}
use Rattle.plan_radius.specs.declared.lane_change.LaneChange.TheVariants.{Below, Free}

-- what becomes of a lane
abbrev pub lane_changed : LaneChange → Option ℕ → Option ℕ
lane_changed (Below r) cost = if is_cheaper r cost then cost else None
lane_changed Free cost = option_map (λ (_ : ℕ). 0) cost

-- the lane between two ids is changed
abbrev pub HasChanged : LaneChange → (old new : Instance) → (s c : ℕ) → Type 0
HasChanged change old new s c = lane new s c ≡ lane_changed change (lane old s c)

-- some lanes are changed, and nothing else is
pub record IsPartlyChanged (change : LaneChange) (old new : Instance) : Type 0 where
  pub rest : new ≡ record old { lanes = new.lanes }
  pub lanes : (s c : ℕ) → (lane new s c ≡ lane old s c) ⊎ HasChanged change old new s c

-- How many steps of a path are on lanes, and that a path without any takes no lane away.
use Rattle.std.proofs.Common.{◌≡◌, ℕ, ◌+◌, cond, refl, false, [], ◌∷◌}
use Rattle.std.specs.List.{list_any}
use Rattle.std.proofs.lemmas.List.Sums.{sum_by-cons}
use Rattle.location_terms.specs.Box.{Path, bars_lane}
use Rattle.location_terms.specs.declared.decision.Decision.{Decision}
use Rattle.location_terms.specs.declared.decision.Decision.TheVariants.{Opened, Closed, Yes, No}
use Rattle.dual_value.specs.Lanes.{steps_on_lanes, is_lane_step}

pub more_steps : (d : Decision) (path : Path) → steps_on_lanes (d ∷ path) ≡ cond (is_lane_step d) 1 0 + steps_on_lanes path
more_steps d path = sum_by-cons (λ x. cond (is_lane_step x) 1 0) d path

-- without a step on a lane none takes a lane away
pub none_barred : (s c : ℕ) (path : Path) → list_any is_lane_step path ≡ false → list_any (bars_lane s c) path ≡ false
none_barred s c [] e = refl
none_barred s c (Opened t ∷ path) e = none_barred s c path e
none_barred s c (Closed t ∷ path) e = none_barred s c path e
none_barred s c (Yes t d ∷ path) e = cc
none_barred s c (No t d ∷ path) e = cc

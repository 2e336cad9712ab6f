-- What a decision is on.
use Rattle.std.specs.Prelude.{ℕ, Bool, true, false, Option, Some, None, count_by}
use Rattle.location_terms.specs.declared.decision.Decision.{Decision}
use Rattle.location_terms.specs.declared.decision.Decision.TheVariants.{Opened, Closed, Yes, No}
use Rattle.location_terms.specs.Box.{Path}

-- the decision is on a lane
abbrev pub is_lane_step : Decision → Bool
is_lane_step (Opened s) = false
is_lane_step (Closed s) = false
is_lane_step (Yes s c) = true
is_lane_step (No s c) = true

-- how many of the decisions are on lanes
abbrev pub steps_on_lanes : Path → ℕ
steps_on_lanes path = count_by is_lane_step path

-- the site that the decision opens or closes
abbrev pub named_site : Decision → Option ℕ
named_site (Opened s) = Some s
named_site (Closed s) = Some s
named_site (Yes s c) = Some s
named_site (No s c) = None

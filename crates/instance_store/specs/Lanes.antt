-- Lanes as they are stored: a cost, or a number above every amount where there is no lane.
use Rattle.std.specs.Prelude.{ℕ, Option, None, Some, nat_le, if◌then◌else◌}
use Rattle.location_terms.specs.declared.limits.TheConstants.{MAX_AMOUNT}

-- the lane that a stored number stands for
abbrev pub lane_in : ℕ → Option ℕ
lane_in cost = if nat_le cost MAX_AMOUNT then Some cost else None

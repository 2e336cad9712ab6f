-- The instance that has the cheap lanes of another alone. Whether it has a feasible plan says whether some plan's radius is below a cost: the
-- threshold of Minieka, SIAM Review 12 (1970). What things cost doesn't count for that.
use Rattle.std.specs.Prelude.{ℕ, Bool, false, map, Option, None, Some, nat_lt}
use Rattle.std.specs.FinMap as map_of
use Rattle.location_terms.specs.Instance.{Instance, Site, Lanes, lane}

-- there is a lane, and it costs less than this
abbrev pub is_cheaper : ℕ → Option ℕ → Bool
is_cheaper r None = false
is_cheaper r (Some cost) = nat_lt cost r

-- the instance without its lanes of this cost or more
abbrev pub below_cost : Instance → ℕ → Instance
below_cost I r = record I { lanes = map_of.retain_keys I.lanes (λ pair. is_cheaper r (lane I pair.0 pair.1)) }

-- the same lanes, each at no cost
abbrev pub free_lanes : Lanes → Lanes
free_lanes lanes = map_of.from_entries (map (λ (e : (ℕ × ℕ) × ℕ). (e.0, 0)) (map_of.entries lanes))

-- a site that costs nothing to open
abbrev pub costless : Site → Site
costless x = record x { fixed = 0 }

-- the instance where no site and no lane costs anything
abbrev pub without_costs : Instance → Instance
without_costs I = record I { sites = map costless I.sites; lanes = free_lanes I.lanes }

-- An instance in which one cost is another one.
use Rattle.std.specs.Prelude.{ℕ, Some, unwrap_or}
use Rattle.location_terms.specs.Instance.{Instance, lane}
use Rattle.instance_store.specs.Changes.{with_lane_cost}

-- the instance whose lane from a site to a customer costs so much; with_fixed is that whose site costs so much to open
abbrev pub with_lane_costing : Instance → ℕ → ℕ → ℕ → Instance
with_lane_costing I s c cost = with_lane_cost I s c (Some cost)

-- what it costs to serve the customer from the site, by their ids
abbrev pub lane_cost_of : Instance → ℕ → ℕ → ℕ
lane_cost_of I s c = unwrap_or (lane I s c) 0

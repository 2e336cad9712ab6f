use Rattle.std.proofs.Common.{ℕ, ◌<◌, IsSome}
use Rattle.location_terms.specs.Instance.{site_at, customer_at, lane}
use Rattle.set_walk.proofs.plain.has_all_lanes.Given as goal

abbrev pub invariant-loop-cust : goal.invariant-loop-cust
invariant-loop-cust l = (k : ℕ) → k < l.cust → IsSome (lane l.inst (site_at l.inst l.site).id (customer_at l.inst k).id)

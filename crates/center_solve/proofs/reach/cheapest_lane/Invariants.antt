use Rattle.std.proofs.Common.{ℕ, ◌<◌, ◌≤◌, IfSome}
use Rattle.location_terms.specs.Instance.{site_at, customer_at, lane}
use Rattle.center_solve.proofs.reach.cheapest_lane.Given as goal

abbrev pub invariant-loop-site : goal.invariant-loop-site
invariant-loop-site l = (i : ℕ) → i < l.site → IfSome (lane l.inst (site_at l.inst i).id (customer_at l.inst l.cust).id) (λ cost. l.cheapest ≤ cost)

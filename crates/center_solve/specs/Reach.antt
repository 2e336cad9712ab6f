-- For private functions alone: no public contract cites this page.
-- A customer to whom no lane is cheap.
use Rattle.std.specs.Prelude.{ℕ, ◌<◌, ◌≤◌, length, IfSome}
use Rattle.location_terms.specs.Instance.{Instance, site_at, customer_at, lane}
use Rattle.center_solve.specs.declared.reach.Reach.{Reach}

-- no lane to the customer costs less
pub record IsReach (I : Instance) (r : Reach) : Type 0 where
  pub known : r.cust < length I.customers
  pub least : (i : ℕ) → i < length I.sites → IfSome (lane I (site_at I i).id (customer_at I r.cust).id) (λ cost. r.cost ≤ cost)

use Rattle.std.proofs.Common.{ℕ, ◌<◌, ◌≤◌, length, IfSome}
use Rattle.location_terms.specs.Instance.{site_at, customer_at, lane}
use Rattle.location_terms.specs.declared.limits.TheConstants.{MAX_AMOUNT}
use Rattle.center_solve.proofs.greatest.greatest_from.Given as goal

abbrev pub invariant-loop-cust : goal.invariant-loop-cust
invariant-loop-cust l = record {
  more : l.at_least ≤ l.greatest;
  so_far : (j : ℕ) → j < l.cust → IfSome (lane l.inst (site_at l.inst l.site).id (customer_at l.inst j).id) (λ cost. cost ≤ l.greatest);
  least : (r : ℕ) → l.at_least ≤ r → ((j : ℕ) → j < length l.inst.customers → IfSome (lane l.inst (site_at l.inst l.site).id (customer_at l.inst j).id) (λ cost. cost ≤ r)) → l.greatest ≤ r;
  small : l.greatest ≤ MAX_AMOUNT;
}

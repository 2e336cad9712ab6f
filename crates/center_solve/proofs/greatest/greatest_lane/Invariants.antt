use Rattle.std.proofs.Common.{ℕ, ◌<◌, ◌≤◌, length, IfSome}
use Rattle.location_terms.specs.Instance.{site_at, customer_at, lane}
use Rattle.location_terms.specs.declared.limits.TheConstants.{MAX_AMOUNT}
use Rattle.center_solve.proofs.greatest.greatest_lane.Given as goal

abbrev pub invariant-loop-site : goal.invariant-loop-site
invariant-loop-site l = record {
  so_far : (i j : ℕ) → i < l.site → j < length l.inst.customers → IfSome (lane l.inst (site_at l.inst i).id (customer_at l.inst j).id) (λ cost. cost ≤ l.greatest);
  least : (r : ℕ) → ((i j : ℕ) → i < length l.inst.sites → j < length l.inst.customers → IfSome (lane l.inst (site_at l.inst i).id (customer_at l.inst j).id) (λ cost. cost ≤ r)) → l.greatest ≤ r;
  small : l.greatest ≤ MAX_AMOUNT;
}

use Rattle.std.proofs.Common.{◌≡◌, ℕ, ◌<◌, ◌≤◌, ◌⊎◌}
use Rattle.location_terms.specs.Instance.{customer_at}
use Rattle.location_terms.specs.declared.limits.TheConstants.{MAX_AMOUNT}
use Rattle.dual_value.proofs.fit.greatest_demand.Given as goal

abbrev pub invariant-loop-cust : goal.invariant-loop-cust
invariant-loop-cust l = record {
  bound : (j : ℕ) → j < l.cust → (customer_at l.inst j).demand ≤ l.greatest;
  reached : (l.greatest ≡ 0) ⊎ ((j : ℕ) × (j < l.cust) × ((customer_at l.inst j).demand ≡ l.greatest));
  small : l.greatest ≤ MAX_AMOUNT;
}

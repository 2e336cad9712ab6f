use Rattle.std.proofs.Common.{◌≡◌, ◌≤◌, ◌*◌, take}
use Rattle.std.specs.Prelude.{sum_by}
use Rattle.location_terms.specs.declared.limits.TheConstants.{MAX_AMOUNT}
use Rattle.leaf_bounds.proofs.small.whole_demand.Given as goal

abbrev pub invariant-loop-cust : goal.invariant-loop-cust
invariant-loop-cust l = record {
  sum : l.sum ≡ sum_by (λ c. c.demand) (take l.cust l.inst.customers);
  small : l.sum ≤ l.cust * MAX_AMOUNT;
}

use Rattle.std.proofs.Common.{◌≡◌, ◌*◌, ◌≤◌, take}
use Rattle.std.specs.Prelude.{sum_by}
use Rattle.location_terms.specs.Instance.{fixed_of}
use Rattle.location_terms.specs.declared.limits.TheConstants.{MAX_AMOUNT}
use Rattle.plan_meaning.proofs.amounts.fixed_costs.Given as goal

abbrev pub invariant-loop-k : goal.invariant-loop-k
invariant-loop-k l = record {
  exact : l.cost ≡ sum_by (fixed_of l.inst) (take l.k l.plan.sites);
  small : l.cost ≤ l.k * MAX_AMOUNT;
}

use Rattle.std.proofs.Common.{◌≡◌, ◌*◌, ◌≤◌, take}
use Rattle.std.specs.Prelude.{sum_by, unwrap_or}
use Rattle.location_terms.specs.Instance.{lane}
use Rattle.location_terms.specs.declared.limits.TheConstants.{MAX_AMOUNT}
use Rattle.plan_meaning.proofs.amounts.lane_costs.Given as goal

abbrev pub invariant-loop-k : goal.invariant-loop-k
invariant-loop-k l = record {
  exact : l.cost ≡ sum_by (λ v. unwrap_or (lane l.inst v.1 v.0) 0) (take l.k l.plan.serves);
  small : l.cost ≤ l.k * MAX_AMOUNT;
}

use Rattle.std.proofs.Common.{◌≡◌, ◌*◌, ◌≤◌, sum_by}
use Rattle.location_terms.specs.Instance.{fixed_of}
use Rattle.location_terms.specs.declared.limits.TheConstants.{MAX_AMOUNT}
use Rattle.set_walk.proofs.Steps.{opened_before}
use Rattle.set_walk.proofs.pricing.opening_cost.Given as goal

abbrev pub invariant-loop-place : goal.invariant-loop-place
invariant-loop-place l = record {
  so_far : l.cost ≡ sum_by (fixed_of l.inst) (opened_before l.inst l.set.bits l.place);
  small : l.cost ≤ l.place * MAX_AMOUNT;
}

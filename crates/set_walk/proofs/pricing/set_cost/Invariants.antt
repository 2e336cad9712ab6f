use Rattle.std.proofs.Common.{◌≡◌, ◌+◌, ◌*◌, ◌≤◌, sum_by, take}
use Rattle.location_terms.specs.Instance.{fixed_of, customer_ids}
use Rattle.location_terms.specs.declared.limits.TheConstants.{MAX_AMOUNT}
use Rattle.set_walk.specs.declared.TheConstants.{MAX_WALK_SITES}
use Rattle.set_walk.specs.Set.{opened, least_cost}
use Rattle.set_walk.proofs.pricing.set_cost.Given as goal

abbrev pub invariant-loop-customer : goal.invariant-loop-customer
invariant-loop-customer l = record {
  so_far : l.cost ≡ sum_by (fixed_of l.inst) (opened l.inst l.set.bits) + sum_by (least_cost l.inst (opened l.inst l.set.bits)) (take l.customer (customer_ids l.inst));
  small : l.cost ≤ (MAX_WALK_SITES + l.customer) * MAX_AMOUNT;
}

use Rattle.std.proofs.Common.{◌≡◌, take}
use Rattle.location_terms.specs.Instance.{customer_ids}
use Rattle.leaf_repair.proofs.places.instance_customers.Given as goal

abbrev pub invariant-loop-cust : goal.invariant-loop-cust
invariant-loop-cust l = l.numbers.items ≡ take l.cust (customer_ids l.inst)

use Rattle.std.proofs.Common.{◌≡◌, take}
use Rattle.location_terms.specs.Instance.{customer_ids}
use Rattle.branch_tree.proofs.tree.customer_list.Given as goal

abbrev pub invariant-loop-cust : goal.invariant-loop-cust
invariant-loop-cust l = l.ids.items ≡ take l.cust (customer_ids l.inst)

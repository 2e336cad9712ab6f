use Rattle.leaf_bounds.proofs.Divisors.{IsUnitTo}
use Rattle.leaf_bounds.proofs.small.demand_unit.Given as goal

abbrev pub invariant-loop-cust : goal.invariant-loop-cust
invariant-loop-cust l = IsUnitTo l.inst l.cust l.unit

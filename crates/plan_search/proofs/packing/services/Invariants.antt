use Rattle.std.proofs.Common.{◌≡◌}
use Rattle.plan_search.proofs.Served.{first_services}
use Rattle.plan_search.proofs.packing.services.Given as goal

abbrev pub invariant-loop-cust : goal.invariant-loop-cust
invariant-loop-cust l = l.serves.items ≡ first_services l.inst l.taken l.cust

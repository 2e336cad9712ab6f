use Rattle.center_solve.specs.Reach.{IsReach}
use Rattle.center_solve.proofs.reach.farthest.Given as goal

abbrev pub invariant-loop-cust : goal.invariant-loop-cust
invariant-loop-cust l = IsReach l.inst l.reach

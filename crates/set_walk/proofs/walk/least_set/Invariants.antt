use Rattle.set_walk.proofs.Steps.{IsLeastSoFar}
use Rattle.set_walk.proofs.walk.least_set.Given as goal

abbrev pub invariant-loop-bits : goal.invariant-loop-bits
invariant-loop-bits l = IsLeastSoFar l.inst l.bits l.best.set.bits l.best.cost

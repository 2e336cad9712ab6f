use Rattle.leaf_repair.specs.UnderWay.{IsCourse}
use Rattle.leaf_repair.proofs.reducing.reduced.Given as goal

abbrev pub invariant-loop-at : goal.invariant-loop-at
invariant-loop-at l = IsCourse l.inst l.tree l.at l.course.over l.course.wanted.items

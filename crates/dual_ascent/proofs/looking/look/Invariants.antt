use Rattle.dual_ascent.proofs.Walked.{IsPassed}
use Rattle.dual_ascent.proofs.Looked.{IsLeastOver}
use Rattle.dual_ascent.proofs.looking.look.Given as goal

abbrev pub invariant-loop-lane : goal.invariant-loop-lane
invariant-loop-lane l = IsLeastOver l.boxed.instance l.boxed.path l.duals l.cust (IsPassed l.lanes l.lane-index) l.least

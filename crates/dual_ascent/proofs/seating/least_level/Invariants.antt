use Rattle.dual_ascent.proofs.Walked.{IsPassed}
use Rattle.dual_ascent.proofs.Seated.{IsLeastOf}
use Rattle.dual_ascent.proofs.seating.least_level.Given as goal

abbrev pub invariant-loop-lane : goal.invariant-loop-lane
invariant-loop-lane l = IsLeastOf l.boxed.instance l.boxed.path l.duals l.cust (IsPassed l.lanes l.lane-index) l.least

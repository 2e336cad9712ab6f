use Rattle.std.proofs.Common.{◌≡◌, IfSome}
use Rattle.location_terms.specs.Plan.{IsFeasible}
use Rattle.set_search.proofs.seeking.SetSearch.seat_near.Given as goal

abbrev pub invariant-loop-turn : goal.invariant-loop-turn
invariant-loop-turn l = (l.rooms ≡ l.fn.rooms) × IfSome l.best (IsFeasible l.at.inst.now)

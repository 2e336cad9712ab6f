use Rattle.std.proofs.Common.{◌≡◌}
use Rattle.dual_ascent.specs.Steps.{picks}
use Rattle.dual_ascent.proofs.Turns.{seats}
use Rattle.dual_ascent.proofs.seating.seat_all.Given as goal

abbrev pub invariant-loop-cust : goal.invariant-loop-cust
invariant-loop-cust l = l.duals ≡ seats l.boxed.instance l.boxed.path (picks l.apart) l.initial.duals l.cust

use Rattle.std.proofs.Common.{◌≡◌}
use Rattle.dual_value.specs.Slacks.{AreSlacks}
use Rattle.dual_ascent.specs.Steps.{AreBlockers, HasMoved, picks}
use Rattle.dual_ascent.proofs.Turns.{turns}
use Rattle.dual_ascent.proofs.climbing.round.Given as goal

abbrev pub invariant-loop-cust : goal.invariant-loop-cust
invariant-loop-cust l = record {
  exact : l.duals ≡ turns l.boxed.instance l.boxed.path (picks l.apart) l.initial.duals l.cust;
  moved : HasMoved l.boxed.instance l.initial.duals l.duals l.risen;
  slacks : AreSlacks l.boxed.instance l.boxed.path l.duals l.slacks;
  blockers : AreBlockers l.boxed.instance l.boxed.path l.duals l.blockers;
}

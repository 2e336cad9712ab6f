use Rattle.dual_value.specs.Paid.{AreLeftBy}
use Rattle.dual_value.proofs.slacks.fill_slacks.Given as goal

abbrev pub invariant-loop-cust : goal.invariant-loop-cust
invariant-loop-cust l = AreLeftBy l.boxed.instance l.boxed.path l.duals l.cust l.slacks

use Rattle.std.proofs.Common.{get_or}
use Rattle.dual_adjust.specs.Paid.{is_paid_tight}
use Rattle.dual_adjust.proofs.MoreThanOne.{IsSeen}
use Rattle.dual_adjust.proofs.lowering.pays_two_tight.Given as goal

abbrev pub invariant-loop-lane : goal.invariant-loop-lane
invariant-loop-lane l = IsSeen (λ i. is_paid_tight l.boxed.instance l.boxed.path l.duals i l.cust) (λ r. (get_or l.lane-items r (record { cost = 0; site = 0 })).site) l.lane-index l.paid

use Rattle.std.proofs.Common.{get_or}
use Rattle.location_terms.specs.Bound.{level_at}
use Rattle.dual_adjust.specs.Paid.{is_paid}
use Rattle.dual_adjust.proofs.Greatest.{IsBest}
use Rattle.dual_adjust.proofs.lowering.level_below.Given as goal

abbrev pub invariant-loop-lane : goal.invariant-loop-lane
invariant-loop-lane l = IsBest (λ i. is_paid l.boxed.instance l.boxed.path l.duals i l.cust) (λ i. level_at l.boxed.instance l.duals i l.cust)
    (λ r. (get_or l.lane-items r (record { cost = 0; site = 0 })).site) l.lane-index l.greatest

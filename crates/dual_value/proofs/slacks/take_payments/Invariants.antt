use Rattle.location_terms.specs.Bound.{paid_at}
use Rattle.lane_order.proofs.Spread.{IsSpread}
use Rattle.dual_value.proofs.slacks.take_payments.Given as goal

-- the slacks behind the lanes so far
abbrev pub invariant-loop-lane : goal.invariant-loop-lane
invariant-loop-lane l = IsSpread l.lane-items (λ i. paid_at l.boxed.instance l.boxed.path l.duals i l.cust) l.lane-index l.fn.slacks l.slacks

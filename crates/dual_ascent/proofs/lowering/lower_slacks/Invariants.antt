use Rattle.std.proofs.Common.{◌-ℤ◌}
use Rattle.location_terms.specs.Bound.{slack_of}
use Rattle.lane_order.proofs.Spread.{IsSpread}
use Rattle.dual_ascent.specs.Ascent.{raised}
use Rattle.dual_ascent.proofs.lowering.lower_slacks.Given as goal

abbrev pub invariant-loop-lane : goal.invariant-loop-lane
invariant-loop-lane l = IsSpread l.lanes (λ i. slack_of l.boxed.instance l.boxed.path l.duals i -ℤ slack_of l.boxed.instance l.boxed.path (raised l.boxed.instance l.boxed.path l.duals l.cust) i) l.lane-index l.initial.slacks l.slacks

use Rattle.std.proofs.Common.{ℕ, ◌<◌, get_or}
use Rattle.lane_order.specs.declared.order.PlacedLane.{PlacedLane}
use Rattle.plan_search.proofs.FirstLane.{IsPassed}
use Rattle.plan_search.proofs.lanes.cheapest_site.Given as goal

abbrev pub invariant-loop-lane : goal.invariant-loop-lane
invariant-loop-lane l = (k : ℕ) (d : PlacedLane) → k < l.lane-index → IsPassed l.boxed.instance l.boxed.path l.flags l.rooms l.cust (get_or l.lane-items k d)

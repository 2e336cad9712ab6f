use Rattle.std.proofs.Common.{◌≡◌, ◌++◌}
use Rattle.lane_order.specs.Building.{first_lanes}
use Rattle.lane_order.proofs.build.push_lanes.Given as goal

-- the lanes from the sites so far, behind those that were there
abbrev pub invariant-loop-site : goal.invariant-loop-site
invariant-loop-site l = l.lanes.items ≡ l.fn.lanes.items ++ first_lanes l.inst l.cust l.site

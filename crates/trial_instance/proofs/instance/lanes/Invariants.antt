use Rattle.std.proofs.Common.{◌≡◌, map, take}
use Rattle.trial_instance.specs.Trial.{lane_to}
use Rattle.trial_instance.proofs.instance.lanes.Given as goal

-- the lanes so far
abbrev pub invariant-loop-cust : goal.invariant-loop-cust
invariant-loop-cust l = l.row ≡ take l.cust-index (map (lane_to l.site) l.custs)

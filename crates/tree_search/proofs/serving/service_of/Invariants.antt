use Rattle.tree_search.proofs.ServedLanes.{IsFound}
use Rattle.tree_search.proofs.serving.service_of.Given as goal

abbrev pub invariant-loop-lane : goal.invariant-loop-lane
invariant-loop-lane l = IsFound l.boxed.instance l.boxed.path l.cust l.lane-items l.lane-index l.first

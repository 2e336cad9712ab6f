use Rattle.dual_adjust.proofs.LanesPaid.{walk_of}
use Rattle.dual_adjust.proofs.lowering.lanes_of.Goals as goal

pub returns : goal.returns
returns c = walk_of _ _ c.instance.ensures c.custs-custs.ensures.valid c.requires.order c.requires.customer c.lanes.ensures.exact c.lanes.ensures.known c.lanes.ensures.rising

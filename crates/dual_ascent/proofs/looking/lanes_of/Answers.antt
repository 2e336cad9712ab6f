use Rattle.dual_ascent.proofs.Walked.{walk_of}
use Rattle.dual_ascent.proofs.looking.lanes_of.Goals as goal

pub returns-clause-walk : goal.returns-clause-walk
returns-clause-walk c =
    walk_of c.args.boxed.now.instance c.requires.valid c.args.order.now c.requires.order c.args.cust c.requires.customer c.lanes.result.now c.lanes.ensures.exact c.lanes.ensures.known c.lanes.ensures.rising

use Rattle.plan_search.proofs.Flagging.{IsCut}
use Rattle.plan_search.proofs.flags.keep_first.Given as goal

abbrev pub invariant-loop-place : goal.invariant-loop-place
invariant-loop-place l = IsCut l.most l.place l.left l.fn.flags l.flags

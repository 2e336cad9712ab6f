use Rattle.center_solve.proofs.Answered.{answer_holds}
use Rattle.center_solve.proofs.seeking.center.Goals as goal

pub returns-clause-holds : goal.returns-clause-holds
returns-clause-holds c = answer_holds c.args.inst.now c.sites-sites.ensures.valid c.args.budget c.in_ok-answer.answer c.in_ok-answer.ensures.shown

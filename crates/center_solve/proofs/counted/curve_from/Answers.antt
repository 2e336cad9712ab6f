use Rattle.center_solve.proofs.Probes.{count_holds, count_decided}
use Rattle.center_solve.proofs.counted.curve_from.Goals as goal

pub returns-clause-holds : goal.returns-clause-holds
returns-clause-holds c = count_holds c.args.inst.now c.args.count c.args.budget c.in_ok-counted.counted c.in_ok-counted.ensures c.in_ok-answer.answer c.in_ok-answer.ensures c.sites-sites.ensures.valid

pub returns-clause-decided : goal.returns-clause-decided
returns-clause-decided c = count_decided c.args.inst.now c.args.count c.args.budget c.in_ok-counted.counted c.in_ok-counted.ensures c.in_ok-answer.answer c.in_ok-answer.ensures

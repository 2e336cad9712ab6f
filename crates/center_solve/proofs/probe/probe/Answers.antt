use Rattle.center_solve.proofs.Probes.{probe_found, probe_cleared}
use Rattle.center_solve.proofs.probe.probe.Goals as goal

pub returns-clause-found : goal.returns-clause-found
returns-clause-found c =
    probe_found c.args.inst.now c.args.at c.requires.valid c.args.budget c.in_ok-free.free c.in_ok-free.ensures c.in_ok-answer.answer c.in_ok-answer.ensures c.probe_of.result c.probe_of.ensures

pub returns-clause-clear : goal.returns-clause-clear
returns-clause-clear c = probe_cleared c.args.inst.now c.args.at c.args.budget c.in_ok-free.free c.in_ok-free.ensures c.in_ok-answer.answer c.in_ok-answer.ensures c.probe_of.result c.probe_of.ensures

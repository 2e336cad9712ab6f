use Rattle.dualoc_cli.proofs.Centering.{found_center}
use Rattle.dualoc_cli.proofs.center.found.Goals as goal

pub returns : goal.returns
returns c =
    found_center c.args.inst.now c.args.budget c.requires c.sites-sites.ensures.valid c.in_ok-answer.answer c.in_ok-answer.ensures.shown c.in_ok-answer.ensures.holds c.in_ok-answer.ensures.settled

use Rattle.certificate_text.specs.Cert.{certificate_of}
use Rattle.dualoc_cli.proofs.Proving.{no_optimum, not_optimum}
use Rattle.dualoc_cli.proofs.range.by_proof.Goals as goal

pub returns-in_default : goal.returns-in_default
returns-in_default c = no_optimum c.args.inst.now c.args.at (certificate_of c.args.cert.now) (not_optimum c.args.cert.now.claim c.in_default.not-Optimal)

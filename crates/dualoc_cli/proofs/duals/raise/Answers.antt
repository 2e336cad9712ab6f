use Rattle.dualoc_cli.proofs.Causes.{raised}
use Rattle.dualoc_cli.proofs.duals.raise.Goals as goal

pub returns : goal.returns
returns c =
    λ r task. raised r c.args.inst _ _ c.in_ok-duals.duals c.root.ensures c.in_ok-start.ensures task c.in_ok-duals.ensures.ascended c.in_ok-duals.ensures.blocked

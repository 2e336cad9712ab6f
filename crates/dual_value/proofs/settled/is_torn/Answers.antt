use Rattle.std.proofs.Common.{sym, arith}
use Rattle.std.specs.List.{All}
use Rattle.location_terms.specs.Box.{Path}
use Rattle.dual_value.specs.SiteState.{LeavesWhole}
use Rattle.dual_value.proofs.Torn.{whole_from_steps}
use Rattle.dual_value.proofs.settled.is_torn.Goals as goal

pub returns-clause-exact : goal.returns-clause-exact
returns-clause-exact c =
    let I = c.args.inst.now in
    let path : Path = c.args.path.now in
    let all : All (LeavesWhole I path) path = λ k d b. c.loop-step.invariant k d (omega arith) in
    sym (whole_from_steps I path all)

use Rattle.std.proofs.Common.{ap}
use Rattle.std.proofs.lemmas.Result.{err_from_is_err_and}
use Rattle.whatif_session.specs.State.{SessionView}
use Rattle.dualoc_cli.proofs.Talking.{none_begun, limits_are}
use Rattle.dualoc_cli.proofs.session.hold.Goals as goal

pub returns-in_err-session-clause-halted : goal.returns-in_err-session-clause-halted
returns-in_err-session-clause-halted g c =
    let p = err_from_is_err_and c.from_residual.result c.from_residual.ensures.1 in
    rw (p.1, p.2) (none_begun _ _ _)

pub returns-clause-halted : goal.returns-clause-halted
returns-clause-halted g c =
    let limits = limits_are c.new-lines.result c.args.most c.args.limit c.new-lines.ensures.most c.new-lines.ensures.unread in
    let begun = ap (λ (s : SessionView). s.instance) c.in_ok-session.ensures in
    rw begun at (rw limits at c.talk.ensures.halted)

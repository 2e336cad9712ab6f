use Rattle.std.proofs.Common.{ap}
use Rattle.std.proofs.lemmas.Result.{err_from_is_err_and}
use Rattle.desk_session.specs.State.{DeskView}
use Rattle.dualoc_cli.proofs.Talking.{limits_are}
use Rattle.desk_cli.proofs.Talking.{none_begun}
use Rattle.desk_cli.proofs.talk.hold.Goals as goal

pub returns-in_err-desk-clause-halted : goal.returns-in_err-desk-clause-halted
returns-in_err-desk-clause-halted g c =
    let p = err_from_is_err_and c.from_residual.result c.from_residual.ensures.1 in
    rw (p.1, p.2) (none_begun _ _ _ _)

pub returns-clause-halted : goal.returns-clause-halted
returns-clause-halted g c =
    let limits = limits_are c.new-lines.result c.args.most c.args.limit c.new-lines.ensures.most c.new-lines.ensures.unread in
    let begun = ap (λ (d : DeskView). d.session.instance) c.in_ok-desk.ensures in
    rw begun at (rw limits at c.talk.ensures.halted)

pub returns-clause-ended : goal.returns-clause-ended
returns-clause-ended g c =
    let limits = limits_are c.new-lines.result c.args.most c.args.limit c.new-lines.ensures.most c.new-lines.ensures.unread in
    let begun = ap (λ (d : DeskView). d.session.instance) c.in_ok-desk.ensures in
    rw begun at (rw limits at c.talk.ensures.ended)

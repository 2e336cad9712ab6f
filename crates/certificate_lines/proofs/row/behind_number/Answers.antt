use Rattle.std.proofs.Common.{◌&&◌, ap, ◌∙◌}
use Rattle.certificate_lines.specs.Head.{still_allows, plain_ahead}
use Rattle.certificate_lines.proofs.Walks.{given_number, past_last, past_number}
use Rattle.certificate_lines.proofs.row.behind_number.Goals as goal

pub returns-in_err-left-clause-walked : goal.returns-in_err-left-clause-walked
returns-in_err-left-clause-walked c = λ ws.
    let number = given_number c.args.word.now c.in_ok-plain.plain c.in_ok-plain.ensures in
    ap (λ o. plain_ahead o ws) c.from_residual-in_err-left.ensures
    ∙ past_last c.args.walk c.args.word.now ws (λ n. c.behind_one.ensures n ∙ ap (λ o. still_allows o n) c.in_err-left.was) number.0

pub returns-clause-walked : goal.returns-clause-walked
returns-clause-walked c = λ ws.
    let number = given_number c.args.word.now c.in_ok-plain.plain c.in_ok-plain.ensures in
    past_number c.args.walk c.in_ok-left.left _ c.args.word.now ws (λ n. c.behind_one.ensures n ∙ ap (λ o. still_allows o n) c.in_ok-left.was) number.0 (ap (λ b. c.args.walk.plain && b) number.1)

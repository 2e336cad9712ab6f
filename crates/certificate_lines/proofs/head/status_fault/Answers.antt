use Rattle.std.proofs.Common.{sym, ◌∙◌}
use Rattle.certificate_lines.specs.declared.kind.CertKind.TheVariants.{WrongStatus}
use Rattle.certificate_lines.specs.Text.{ids_where, is_status}
use Rattle.certificate_lines.specs.Due.{NothingShown}
use Rattle.certificate_lines.specs.Lines.{unless, then_due, same_ids}
use Rattle.certificate_lines.proofs.Shapes.{unless-holds, unless-fails}
use Rattle.certificate_lines.proofs.head.status_fault.Goals as goal

pub returns-in-Some : goal.returns-in-Some
returns-in-Some c = λ next. c.in-Some.ensures.said (λ zs. unless (same_ids (ids_where (is_status c.args.status) c.args.inst.now) zs) WrongStatus (then_due next NothingShown))

pub returns-in-None : goal.returns-in-None
returns-in-None c = λ next.
    c.in-None.ensures.said (λ zs. unless (same_ids (ids_where (is_status c.args.status) c.args.inst.now) zs) WrongStatus (then_due next NothingShown))
    ∙ unless-fails _ _ _ (sym c.has_status.ensures ∙ c.if-not-has_status.true)

pub returns-in-None-2 : goal.returns-in-None-2
returns-in-None-2 c = λ next.
    c.in-None.ensures.said (λ zs. unless (same_ids (ids_where (is_status c.args.status) c.args.inst.now) zs) WrongStatus (then_due next NothingShown))
    ∙ unless-holds _ _ _ (sym c.has_status.ensures ∙ c.if-not-has_status.false)

use Rattle.std.proofs.Common.{sym, ap, ◌∙◌}
use Rattle.certificate_lines.specs.Due.{ServeDue, NothingShown}
use Rattle.certificate_lines.specs.Lines.{then_due, ids}
use Rattle.certificate_lines.proofs.plan_lines.read_open.Goals as goal

pub returns-in-Some : goal.returns-in-Some
returns-in-Some c = c.in-Some.ensures.said (λ zs. then_due (ServeDue c.args.claim (ids zs)) NothingShown)

pub returns-in_ok-site_list-in-None : goal.returns-in_ok-site_list-in-None
returns-in_ok-site_list-in-None c =
    c.in-None.ensures.said (λ zs. then_due (ServeDue c.args.claim (ids zs)) NothingShown)
    ∙ ap (λ sites. then_due (ServeDue c.args.claim sites) NothingShown) (sym c.in_ok-site_list-in-None.ensures)

use Rattle.std.proofs.Common.{[], sym, ap, ◌∙◌}
use Rattle.location_terms.specs.Plan.{IsPlan}
use Rattle.plan_meaning.specs.Plan.{plan_of}
use Rattle.certificate_lines.specs.Due.{NodeDue, PlanShown}
use Rattle.certificate_lines.specs.Lines.{then_due}
use Rattle.certificate_lines.proofs.Served.{value_made}
use Rattle.certificate_lines.proofs.plan_lines.read_serve.Goals as goal

pub returns-in-Some : goal.returns-in-Some
returns-in-Some c = c.in-Some.ensures.said c.args.claim c.args.sites.items

pub returns-in_ok-serves-in-None : goal.returns-in_ok-serves-in-None
returns-in_ok-serves-in-None c =
    let made = plan_of c.args.sites.items c.in_ok-serves-in-None.serves.items in
    let plan = value_made c.new.result (IsPlan made) made c.unwrap-plan.result c.new.ensures c.unwrap-plan.ensures in
    c.in-None.ensures.said c.args.claim c.args.sites.items
    ∙ ap (λ serves. then_due (NodeDue c.args.claim []) (PlanShown c.args.claim (plan_of c.args.sites.items serves))) (sym c.in_ok-serves-in-None.ensures.exact)
    ∙ ap (λ P. then_due (NodeDue c.args.claim []) (PlanShown c.args.claim P)) (sym plan)
    ∙ ap (λ path. then_due (NodeDue c.args.claim path) (PlanShown c.args.claim c.unwrap-plan.result)) (sym c.root.ensures)

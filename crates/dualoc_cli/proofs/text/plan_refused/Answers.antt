use Rattle.std.proofs.Common.{◌++◌, ◌∙◌, ap, codes, decimal}
use Rattle.plan_meaning.specs.PlanFault.{fault_name}
use Rattle.dualoc_cli.proofs.Texts.{five}
use Rattle.dualoc_cli.proofs.text.plan_refused.Goals as goal

pub returns : goal.returns
returns c =
    ap (λ v. v.items) c.into_bytes.ensures.value ∙ c.in_ok-format.ensures.ok
    ∙ ap (λ name. codes "no PlanRefused line " ++ (decimal c.args.line ++ (codes " " ++ (name ++ codes "\n")))) c.name-name.ensures
    ∙ five (codes "no PlanRefused line ") (decimal c.args.line) (codes " ") (fault_name c.args.fault) (codes "\n")

use Rattle.std.proofs.Common.{◌∙◌, ap, codes, decimal}
use Rattle.dualoc_cli.proofs.Texts.{five}
use Rattle.dualoc_cli.proofs.text.converted.Goals as goal

pub returns : goal.returns
returns c =
    ap (λ v. v.items) c.into_bytes.ensures.value ∙ c.in_ok-format.ensures.ok
    ∙ five (codes "converted sites ") (decimal c.args.sites) (codes " customers ") (decimal c.args.custs) (codes "\n")

use Rattle.std.proofs.Common.{◌++◌, ◌∙◌, ap, codes, decimal}
use Rattle.std.specs.Int.{w128}
use Rattle.std.proofs.lemmas.Int.{to_z-of_z}
use Rattle.number_words.specs.Number.{number_text}
use Rattle.dualoc_cli.proofs.Texts.{three_one_three}
use Rattle.dualoc_cli.proofs.text.open.Goals as goal

pub returns : goal.returns
returns c =
    three_one_three (codes "no LeafOpen line ") (decimal c.args.line) (codes " bound ") (number_text c.args.bound) (codes " scale ") (decimal c.args.q) (codes "\n") _ _ _
    (ap (λ v. v.items) c.into_bytes-text.ensures.value ∙ c.in_ok-format.ensures.ok)
    (c.in_ok-push_number.ensures ∙ ap (λ z. c.into_bytes-text.result.items ++ number_text z) (to_z-of_z w128 c.args.bound c.ranges.bound))
    (c.in_ok-extend_from_slice.ensures.items ∙ ap (λ t. c.push_number.new.text.items ++ t) (c.as_bytes.ensures.value ∙ c.in_ok-scale.ensures.ok))

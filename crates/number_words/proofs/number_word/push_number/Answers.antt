use Rattle.std.proofs.Common.{◌≡◌, ap, sym, ◌∙◌, rules}
use Rattle.std.specs.Fmt.{signed_decimal}
use Rattle.std.specs.Int.{w128}
use Rattle.std.proofs.lemmas.Int.{to_z-of_z}
use Rattle.number_words.specs.Number.{number_text}
use Rattle.number_words.proofs.Numbers.{number_text-signed_decimal, unsigned_abs-wide}
use Rattle.number_words.proofs.number_word.push_number.Goals as goal

pub returns : goal.returns
returns c =
    let value = c.args.value in
    let fits = c.ranges.value in
    let printed : c.as_bytes.result.now ≡ number_text value =
    c.as_bytes.ensures.value ∙ c.format.ensures.text ∙ ap signed_decimal (to_z-of_z w128 value fits) ∙ sym (number_text-signed_decimal value (unsigned_abs-wide value fits)) in
    search rules

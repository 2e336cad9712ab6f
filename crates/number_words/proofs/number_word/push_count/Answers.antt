use Rattle.std.proofs.Common.{◌≡◌, sym, ◌∙◌, arith, rules}
use Rattle.number_words.specs.Number.{digits_text}
use Rattle.number_words.proofs.Digits.{digits_text-decimal}
use Rattle.number_words.proofs.number_word.push_count.Goals as goal

pub returns : goal.returns
returns c =
    let printed : c.as_bytes.result.now ≡ digits_text c.args.n = c.as_bytes.ensures.value ∙ c.format.ensures.text ∙ sym (digits_text-decimal c.args.n (omega arith)) in
    search rules

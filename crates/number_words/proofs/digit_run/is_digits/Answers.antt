use Rattle.std.proofs.Common.{◌≡◌, ◌&&◌, ◌==◌, not, false, length, sym, ap, ◌∙◌}
use Rattle.std.specs.Str.{all_ascii_digits}
use Rattle.number_words.proofs.Digits.{list_all-digits}
use Rattle.number_words.proofs.digit_run.is_digits.Goals as goal

pub returns-then-not-is_empty : goal.returns-then-not-is_empty
returns-then-not-is_empty c =
    let word = c.args.word.now in
    let full : length word == 0 ≡ false = sym c.is_empty.ensures ∙ c.if-not-is_empty.true in
    c.has_digits_alone.ensures ∙ list_all-digits word ∙ sym (ap (λ b. not b && all_ascii_digits word) full)

use Rattle.std.proofs.Common.{◌≡◌, ◌&&◌, false, true, sym, ap, ◌∙◌}
use Rattle.std.specs.Str.{all_ascii_digits}
use Rattle.std.proofs.lemmas.Bool.{and_left}
use Rattle.number_words.proofs.Digits.{list_all-digits}
use Rattle.fixed_cost.proofs.Spelling.{is_digits-both}
use Rattle.fixed_cost.proofs.amount.has_digits.Goals as goal

pub returns-then-has_digits_alone : goal.returns-then-has_digits_alone
returns-then-has_digits_alone c =
    let xs = c.args.whole.now in
    let ys = c.args.decimals.now in
    let front : all_ascii_digits xs ≡ true = sym (list_all-digits xs) ∙ sym c.has_digits_alone.ensures ∙ c.if-has_digits_alone.true in
    c.has_digits_alone-then-has_digits_alone.ensures ∙ list_all-digits ys ∙ ap (λ b. b && all_ascii_digits ys) (sym front) ∙ is_digits-both xs ys (sym c.is_empty.ensures ∙ c.if-is_empty.false)

pub returns-else-has_digits_alone : goal.returns-else-has_digits_alone
returns-else-has_digits_alone c =
    let xs = c.args.whole.now in
    let ys = c.args.decimals.now in
    let front : all_ascii_digits xs ≡ false = sym (list_all-digits xs) ∙ sym c.has_digits_alone.ensures ∙ c.if-has_digits_alone.false in
    c.if-has_digits_alone.false ∙ sym (and_left (all_ascii_digits xs) (all_ascii_digits ys) front) ∙ is_digits-both xs ys (sym c.is_empty.ensures ∙ c.if-is_empty.false)

use Rattle.std.proofs.Common.{◌^◌, sym, ◌∙◌, arith}
use Rattle.std.specs.Str.Parse.{digits_value}
use Rattle.fixed_cost.proofs.Spelling.{count_of-other, count_of-digits, in_limit, past_limit}
use Rattle.fixed_cost.proofs.amount.read_count.Goals as goal

pub returns-then-not-is_digits : goal.returns-then-not-is_digits
returns-then-not-is_digits c = sym (count_of-other c.args.word.now (sym c.is_digits.ensures ∙ c.if-not-is_digits.true))

pub returns-then-value-from : goal.returns-then-value-from
returns-then-value-from c =
    let word = c.args.word.now in
    sym (count_of-digits word (sym c.is_digits.ensures ∙ c.if-not-is_digits.false)
    ∙ in_limit (digits_value 10 word) 4294967295 (10 ^ 18) c.push_digits-value.result c.push_digits-value.ensures (omega arith) (omega arith))

pub returns-else-value-from : goal.returns-else-value-from
returns-else-value-from c =
    let word = c.args.word.now in
    sym (count_of-digits word (sym c.is_digits.ensures ∙ c.if-not-is_digits.false)
    ∙ past_limit (digits_value 10 word) 4294967295 (10 ^ 18) c.push_digits-value.result c.push_digits-value.ensures (λ low. omega arith))

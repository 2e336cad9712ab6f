use Rattle.std.proofs.Common.{◌≡◌, ◌^◌, true, min, sym, ap, ◌∙◌, arith}
use Rattle.location_terms.specs.declared.limits.TheConstants.{MAX_AMOUNT}
use Rattle.fixed_cost.specs.Amount.{is_numeral, is_in_millionths, millionths}
use Rattle.fixed_cost.proofs.Spelling.{both_digits, numeral-is, fine-is, millionths-is, amount_of-other, amount_of-fine, amount_of-value, in_limit, past_limit}
use Rattle.fixed_cost.proofs.amount.Amount.read.Goals as goal

pub returns-then-not-has_digits : goal.returns-then-not-has_digits
returns-then-not-has_digits c =
    let same = numeral-is c.args.word.now _ _ _ c.without_plus.ensures c.parts.ensures.units c.parts.ensures.decimals in
    sym (amount_of-other c.args.word.now (sym same ∙ sym c.has_digits.ensures ∙ c.if-not-has_digits.true))

pub returns-then-not-is_whole_tail : goal.returns-then-not-is_whole_tail
returns-then-not-is_whole_tail c =
    let word = c.args.word.now in
    let numeral : is_numeral word ≡ true = sym (numeral-is word _ _ _ c.without_plus.ensures c.parts.ensures.units c.parts.ensures.decimals) ∙ sym c.has_digits.ensures ∙ c.if-not-has_digits.false in
    sym (amount_of-fine word numeral (sym (fine-is word _ _ c.without_plus.ensures c.parts.ensures.decimals) ∙ sym c.is_whole_tail.ensures ∙ c.if-not-is_whole_tail.true))

pub millionths-micro-requires-clause-whole : goal.millionths-micro-requires-clause-whole
millionths-micro-requires-clause-whole c = (both_digits c.parts.result.0.now c.parts.result.1.now (sym c.has_digits.ensures ∙ c.if-not-has_digits.false)).0

pub millionths-micro-requires-clause-decimals : goal.millionths-micro-requires-clause-decimals
millionths-micro-requires-clause-decimals c = (both_digits c.parts.result.0.now c.parts.result.1.now (sym c.has_digits.ensures ∙ c.if-not-has_digits.false)).1

pub returns-then-micro-le-MAX_AMOUNT : goal.returns-then-micro-le-MAX_AMOUNT
returns-then-micro-le-MAX_AMOUNT c =
    let word = c.args.word.now in
    let numeral : is_numeral word ≡ true = sym (numeral-is word _ _ _ c.without_plus.ensures c.parts.ensures.units c.parts.ensures.decimals) ∙ sym c.has_digits.ensures ∙ c.if-not-has_digits.false in
    let fine : is_in_millionths word ≡ true = sym (fine-is word _ _ c.without_plus.ensures c.parts.ensures.decimals) ∙ sym c.is_whole_tail.ensures ∙ c.if-not-is_whole_tail.false in
    let read = c.millionths-micro.ensures ∙ ap (λ n. min n (10 ^ 18)) (millionths-is word _ _ _ c.without_plus.ensures c.parts.ensures.units c.parts.ensures.decimals) in
    sym (amount_of-value word numeral fine ∙ in_limit (millionths word) MAX_AMOUNT (10 ^ 18) c.millionths-micro.result read (omega arith) (omega arith))

pub returns-else-micro-le-MAX_AMOUNT : goal.returns-else-micro-le-MAX_AMOUNT
returns-else-micro-le-MAX_AMOUNT c =
    let word = c.args.word.now in
    let numeral : is_numeral word ≡ true = sym (numeral-is word _ _ _ c.without_plus.ensures c.parts.ensures.units c.parts.ensures.decimals) ∙ sym c.has_digits.ensures ∙ c.if-not-has_digits.false in
    let fine : is_in_millionths word ≡ true = sym (fine-is word _ _ c.without_plus.ensures c.parts.ensures.decimals) ∙ sym c.is_whole_tail.ensures ∙ c.if-not-is_whole_tail.false in
    let read = c.millionths-micro.ensures ∙ ap (λ n. min n (10 ^ 18)) (millionths-is word _ _ _ c.without_plus.ensures c.parts.ensures.units c.parts.ensures.decimals) in
    sym (amount_of-value word numeral fine ∙ past_limit (millionths word) MAX_AMOUNT (10 ^ 18) c.millionths-micro.result read (λ low. omega arith))

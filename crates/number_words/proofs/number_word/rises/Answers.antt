use Rattle.std.proofs.Common.{refl, ap, ◌∙◌}
use Rattle.std.proofs.lemmas.Bool.{eq-eqb, ne_eqb}
use Rattle.number_words.specs.Number.{is_plain_digits}
use Rattle.number_words.proofs.Numbers.{is_plain_digits-without_sign, both-negative, both-positive, below-signs, above-signs}
use Rattle.number_words.proofs.number_word.rises.Goals as goal

pub is_below-requires : goal.is_below-requires
is_below-requires c = record {
  a = ap is_plain_digits c.without_sign-y.ensures ∙ is_plain_digits-without_sign c.args.b.now c.requires.b_plain;
  b = ap is_plain_digits c.without_sign-x.ensures ∙ is_plain_digits-without_sign c.args.a.now c.requires.a_plain;
}

pub is_below-requires-in-false-false : goal.is_below-requires-in-false-false
is_below-requires-in-false-false c = record {
  a = ap is_plain_digits c.without_sign-x.ensures ∙ is_plain_digits-without_sign c.args.a.now c.requires.a_plain;
  b = ap is_plain_digits c.without_sign-y.ensures ∙ is_plain_digits-without_sign c.args.b.now c.requires.b_plain;
}

pub returns-in-true-true : goal.returns-in-true-true
returns-in-true-true c =
    both-negative c.args.a.now c.args.b.now c.without_sign-x.result.now c.without_sign-y.result.now c.is_below.result c.in-true-true.is-0 c.in-true-true.is-1 c.without_sign-x.ensures c.without_sign-y.ensures c.is_below.ensures

pub returns-in-true-false : goal.returns-in-true-false
returns-in-true-false c =
    (λ _. below-signs c.args.a.now c.args.b.now c.requires.a_plain (eq-eqb _ 45 c.in-true-false.is-0) (ne_eqb _ 45 c.in-true-false.is-1), λ _. refl)

pub returns-in-false-true : goal.returns-in-false-true
returns-in-false-true c =
    (λ holds. cc, λ less. absurd (above-signs c.args.a.now c.args.b.now (ne_eqb _ 45 c.in-false-true.is-0) (eq-eqb _ 45 c.in-false-true.is-1) less))

pub returns-in-false-false : goal.returns-in-false-false
returns-in-false-false c =
    both-positive c.args.a.now c.args.b.now c.without_sign-x.result.now c.without_sign-y.result.now c.is_below-in-false-false.result c.in-false-false.is-0 c.in-false-false.is-1 c.without_sign-x.ensures c.without_sign-y.ensures c.is_below-in-false-false.ensures

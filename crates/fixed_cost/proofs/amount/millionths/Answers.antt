use Rattle.std.proofs.Common.{◌≡◌, ◌-◌, ◌^◌, ◌++◌, min, take, drop, refl, sym, ap, ◌∙◌, append_assoc, arith}
use Rattle.std.specs.Prelude.{codes}
use Rattle.std.specs.Str.Parse.{digits_value, digits_value_after}
use Rattle.std.proofs.lemmas.List.{take_rest}
use Rattle.number_words.proofs.Values.{capped-append}
use Rattle.fixed_cost.specs.Amount.{six_places}
use Rattle.fixed_cost.proofs.Spelling.{digits_cut, six_places-is, six_zeros}
use Rattle.fixed_cost.proofs.amount.millionths.Goals as goal

pub push_digits-requires-2-clause-digits : goal.push_digits-requires-2-clause-digits
push_digits-requires-2-clause-digits c =
    let n = c.min-len.result in
    (digits_cut (6 - n) (drop n (codes "000000")) (digits_cut n (codes "000000") refl).1).0

pub returns-then-is_empty : goal.returns-then-is_empty
returns-then-is_empty c =
    let places = six_zeros c.args.whole.now c.args.decimals.now (sym c.is_empty.ensures ∙ c.if-is_empty.true) in
    omega (arith, places, c.push_digits-units.ensures, c.saturating_mul.ensures, c.min.ensures)

pub returns : goal.returns
returns c =
    let whole = c.args.whole.now in
    let ds = c.args.decimals.now in
    let n = c.min-len.result in
    let zeros = take (6 - n) (drop n (codes "000000")) in
    let front : c.push_digits.result ≡ min (digits_value_after 10 0 (whole ++ take n ds)) (10 ^ 18) =
    c.push_digits.ensures ∙ ap (λ v. min (digits_value_after 10 v (take n ds)) (10 ^ 18)) c.push_digits-units.ensures ∙ capped-append (10 ^ 18) whole (take n ds) 0 in
    let places : take n ds ++ zeros ≡ six_places ds = ap (λ zs. take n ds ++ zs) (take_rest (codes "000000") n) ∙ six_places-is ds n c.min-len.ensures in
    c.push_digits-2.ensures ∙ ap (λ v. min (digits_value_after 10 v zeros) (10 ^ 18)) front ∙ capped-append (10 ^ 18) (whole ++ take n ds) zeros 0
    ∙ ap (λ xs. min (digits_value 10 xs) (10 ^ 18)) (append_assoc whole (take n ds) zeros ∙ ap (λ xs. whole ++ xs) places)

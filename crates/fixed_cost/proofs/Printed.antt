-- What is printed is read back.
use Rattle.std.proofs.Common.{◌≡◌, ℕ, ◌/◌, ◌%◌, ◌≤◌, true, nat_le, ◌∷◌, ◌++◌, drop, get_or, length-append, Ok, sym, refl, ap, ◌∙◌, arith}
use Rattle.std.specs.Prelude.{◌==◌}
use Rattle.std.specs.List.{list_all}
use Rattle.std.specs.Str.{all_ascii_digits}
use Rattle.std.specs.Str.Parse.{digits_value, without_leading_plus}
use Rattle.std.proofs.lemmas.Bool.Decides.{nat_tests}
use Rattle.std.proofs.lemmas.List.{get_or_append_left}
use Rattle.std.proofs.lemmas.Str.Parse.{digit_at, numerals_by_value, tells_all_ascii_digits, without_leading_plus_none}
use Rattle.location_terms.specs.declared.limits.TheConstants.{MAX_AMOUNT}
use Rattle.number_words.specs.Cost.{units_of, decimals_of, micro_text}
use Rattle.number_words.specs.Number.{is_digits, digits_text}
use Rattle.number_words.proofs.Digits.{spells-digits_text, digits_append, is_digits-from}
use Rattle.number_words.proofs.Costs.{six, all_ascii_digits-six, micro_text-is, units_of-micro_text, decimals_of-micro_text, spelled_cost-micro_text}
use Rattle.fixed_cost.specs.Amount.{amount_of, is_numeral, is_in_millionths, millionths, six_places}
use Rattle.fixed_cost.proofs.Spelling.{amount_of-value}

-- the text of an amount begins with a digit
without_leading_plus-micro_text : (value : ℕ) → without_leading_plus (micro_text value) ≡ micro_text value
without_leading_plus-micro_text value =
    let ds = digits_text (value / 1000000) in
    let spells = spells-digits_text (value / 1000000) in
    let first = digit_at ds 0 ((numerals_by_value (λ xs. all_ascii_digits xs ≡ true) tells_all_ascii_digits).to ds spells.digits) spells.nonempty in
    let front = ap (λ xs. get_or xs 0 0) (micro_text-is value) ∙ get_or_append_left ds (46 ∷ six (value % 1000000)) 0 0 spells.nonempty in
    without_leading_plus_none (micro_text value) (λ plus. omega (arith, first, front))

-- what is printed of an amount is read as that amount
pub amount_of-micro_text : (value : ℕ) → value ≤ MAX_AMOUNT → amount_of (micro_text value) ≡ Ok value
amount_of-micro_text value low =
    let word = micro_text value in
    let ds = digits_text (value / 1000000) in
    let zs = six (value % 1000000) in
    let spells = spells-digits_text (value / 1000000) in
    let no_plus = without_leading_plus-micro_text value in
    let part = decimals_of-micro_text value in
    let numeral : is_numeral word ≡ true =
    ap (λ w. is_digits (units_of w ++ decimals_of w)) no_plus ∙ ap (λ xs. is_digits (xs ++ decimals_of word)) (units_of-micro_text value) ∙ ap (λ xs. is_digits (ds ++ xs)) part
    ∙ is_digits-from (ds ++ zs) (omega (arith, length-append ds zs, spells.nonempty)) (digits_append ds zs spells.digits (all_ascii_digits-six (value % 1000000))) in
    let fine : is_in_millionths word ≡ true = ap (λ w. list_all (λ b. b == 48) (drop 6 (decimals_of w))) no_plus ∙ ap (λ xs. list_all (λ b. b == 48) (drop 6 xs)) part in
    let six_long : six_places (decimals_of word) ≡ decimals_of word = ap six_places part ∙ sym part in
    let same : millionths word ≡ value =
    ap (λ w. digits_value 10 (units_of w ++ six_places (decimals_of w))) no_plus ∙ ap (λ xs. digits_value 10 (units_of word ++ xs)) six_long ∙ spelled_cost-micro_text value in
    let fits : nat_le (millionths word) MAX_AMOUNT ≡ true = rw same (grind (arith, nat_tests)) in
    amount_of-value word numeral fine ∙ rw (fits, same) refl

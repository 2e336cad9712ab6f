-- What words spell as whole numbers.
use Rattle.std.proofs.Common.{◌≡◌, ℕ, zero, suc, ◌<◌, ◌^◌, Bool, true, false, not, ◌==◌, List, [], ◌∷◌, get_or, drop, sym, refl, ap, ◌∙◌, subst, arith, inl, inr}
use Rattle.std.specs.Prelude.{ℤ, pos, negsuc, neg_ℤ, unsigned_abs, FitsSigned, ◌<ℤ◌, ◌↔◌, IsTrue}
use Rattle.std.specs.Fmt.{signed_decimal}
use Rattle.std.specs.Int.{w128}
use Rattle.std.specs.Str.{all_ascii_digits}
use Rattle.std.specs.Str.Parse.{digits_value, starts_with_minus, without_leading_plus, without_leading_sign}
use Rattle.std.specs.Char.{is_ascii_digit}
use Rattle.std.proofs.lemmas.Bool.{cases_Bool, and_parts, and_from, eqb-true, eq-eqb, ne_eqb, cond-true, cond-false}
use Rattle.std.proofs.lemmas.Bool.Decides.{nat_tests}
use Rattle.std.proofs.lemmas.Int.{ints}
use Rattle.number_words.specs.Number.{is_digits, is_plain_digits, is_number, number_of, is_plain_number, digits_text, number_text}
use Rattle.number_words.proofs.Digits.{spells-digits_text, digits_text-digit, digits_text-decimal, digits_text-plain, is_digits-parts, is_plain_digits-parts, is_plain_digits-digits_text, digit_value-of}

-- digits have no sign
pub starts_with_minus-digits : (ds : List ℕ) → is_digits ds ≡ true → starts_with_minus ds ≡ false
starts_with_minus-digits [] digits = cc
starts_with_minus-digits (c ∷ cs) digits =
    let digit = digit_value-of c (and_parts (is_ascii_digit c) (all_ascii_digits cs) (is_digits-parts (c ∷ cs) digits).1).0 in
    grind (arith, nat_tests)

pub without_leading_sign-digits : (ds : List ℕ) → is_digits ds ≡ true → without_leading_sign ds ≡ ds
without_leading_sign-digits [] digits = refl
without_leading_sign-digits (c ∷ cs) digits =
    let digit = digit_value-of c (and_parts (is_ascii_digit c) (all_ascii_digits cs) (is_digits-parts (c ∷ cs) digits).1).0 in
    let no_minus : c == 45 ≡ false = grind (arith, nat_tests) in
    let no_plus : c == 43 ≡ false = grind (arith, nat_tests) in
    rw (no_minus, no_plus) refl

-- the number of a word by its sign
pub number_of-minus : (w : List ℕ) → starts_with_minus w ≡ true → number_of w ≡ neg_ℤ (pos (digits_value 10 (drop 1 w)))
number_of-minus w minus = cond-true (starts_with_minus w) _ _ minus ∙ ap (λ xs. neg_ℤ (pos (digits_value 10 xs))) (cond-true (starts_with_minus w) (drop 1 w) _ minus)

pub number_of-no_minus : (w : List ℕ) → starts_with_minus w ≡ false → number_of w ≡ pos (digits_value 10 (without_leading_plus w))
number_of-no_minus w none = cond-false (starts_with_minus w) _ _ none ∙ ap (λ xs. pos (digits_value 10 xs)) (cond-false (starts_with_minus w) (drop 1 w) _ none)

-- digits are the number of their value
pub number_of-digits : (ds : List ℕ) → is_digits ds ≡ true → number_of ds ≡ pos (digits_value 10 ds)
number_of-digits ds digits = cond-false (starts_with_minus ds) _ _ (starts_with_minus-digits ds digits) ∙ ap (λ xs. pos (digits_value 10 xs)) (without_leading_sign-digits ds digits)

pub is_number-digits : (ds : List ℕ) → is_digits ds ≡ true → is_number ds ≡ true
is_number-digits ds digits = ap is_digits (without_leading_sign-digits ds digits) ∙ digits

pub is_plain_number-digits : (ds : List ℕ) → is_plain_digits ds ≡ true → is_plain_number ds ≡ true
is_plain_number-digits ds plain = rw (starts_with_minus-digits ds (is_plain_digits-parts ds plain).0) plain

is_digits-digits_text : (n : ℕ) → is_digits (digits_text n) ≡ true
is_digits-digits_text n = (is_plain_digits-parts (digits_text n) (is_plain_digits-digits_text n)).0

-- the text of a number is a plain number, with that value
pub is_number-number_text : (z : ℤ) → is_number (number_text z) ≡ true
is_number-number_text (pos n) = is_number-digits (digits_text n) (is_digits-digits_text n)
is_number-number_text (negsuc n) = is_digits-digits_text (suc n)

pub is_plain_number-number_text : (z : ℤ) → is_plain_number (number_text z) ≡ true
is_plain_number-number_text (pos n) = is_plain_number-digits (digits_text n) (is_plain_digits-digits_text n)
is_plain_number-number_text (negsuc n) =
    let leads = (spells-digits_text (suc n)).leads (omega arith) in
    and_from _ _ (is_plain_digits-digits_text (suc n)) (grind (arith, nat_tests))

pub number_of-number_text : (z : ℤ) → number_of (number_text z) ≡ z
number_of-number_text (pos n) = number_of-digits (digits_text n) (is_digits-digits_text n) ∙ ap pos (spells-digits_text n).value
number_of-number_text (negsuc n) = ap (λ m. neg_ℤ (pos m)) (spells-digits_text (suc n)).value

-- plain digits behind a minus spell a number below 0
negative_text : (n : ℕ) (ds : List ℕ) → digits_text n ≡ ds → not (get_or ds 0 0 == 48) ≡ true → number_text (neg_ℤ (pos n)) ≡ 45 ∷ ds
negative_text zero ds text leads =
    let zero_leads : get_or ds 0 0 ≡ 48 = ap (λ xs. get_or xs 0 0) (sym text ∙ digits_text-digit 0 (omega arith)) in
    absurd (grind (arith, nat_tests))
negative_text (suc n) ds text leads = ap (λ xs. 45 ∷ xs) text

-- a plain number is the text of its value
pub number_text-number_of : (w : List ℕ) → is_plain_number w ≡ true → number_text (number_of w) ≡ w
number_text-number_of [] plain = cc
number_text-number_of (c ∷ cs) plain =
    elim (cases_Bool (starts_with_minus (c ∷ cs))) [
      | inl minus ↦
          let both = and_parts (is_plain_digits cs) (not (get_or cs 0 0 == 48)) (sym (cond-true (starts_with_minus (c ∷ cs)) _ _ minus) ∙ plain) in
          ap number_text (number_of-minus (c ∷ cs) minus) ∙ negative_text (digits_value 10 cs) cs (digits_text-plain cs both.0) both.1 ∙ ap (λ x. x ∷ cs) (sym (eqb-true c 45 minus))
      | inr none ↦
          let digits : is_plain_digits (c ∷ cs) ≡ true = sym (cond-false (starts_with_minus (c ∷ cs)) _ _ none) ∙ plain in
          ap number_text (number_of-digits (c ∷ cs) (is_plain_digits-parts (c ∷ cs) digits).0) ∙ digits_text-plain (c ∷ cs) digits
    ]

-- a number of 128 bits has fewer
pub unsigned_abs-wide : (z : ℤ) → FitsSigned w128 z → unsigned_abs z < 10 ^ 64
unsigned_abs-wide (pos n) fits = omega (arith, fits.sfits)
unsigned_abs-wide (negsuc n) fits = omega (arith, fits.sfits)

-- std's text of a signed number is the same, up to 64 digits
pub number_text-signed_decimal : (z : ℤ) → unsigned_abs z < 10 ^ 64 → number_text z ≡ signed_decimal z
number_text-signed_decimal (pos n) small = digits_text-decimal n small
number_text-signed_decimal (negsuc n) small = ap (λ xs. 45 ∷ xs) (digits_text-decimal (suc n) small)

-- the number of a word by its sign and what follows
pub number_of-signed : (w : List ℕ) → starts_with_minus w ≡ true → number_of w ≡ neg_ℤ (pos (digits_value 10 (without_leading_sign w)))
number_of-signed w minus = cond-true (starts_with_minus w) _ _ minus

pub number_of-unsigned : (w : List ℕ) → starts_with_minus w ≡ false → number_of w ≡ pos (digits_value 10 (without_leading_sign w))
number_of-unsigned w none = cond-false (starts_with_minus w) _ _ none

-- a plain number is plain digits behind its sign, which are worth something where that is a minus
pub is_plain_digits-without_sign : (w : List ℕ) → is_plain_number w ≡ true → is_plain_digits (without_leading_sign w) ≡ true
is_plain_digits-without_sign w plain =
    elim (cases_Bool (starts_with_minus w)) [
      | inl minus ↦
          ap is_plain_digits (cond-true (starts_with_minus w) (drop 1 w) _ minus)
          ∙ (and_parts (is_plain_digits (drop 1 w)) (not (get_or w 1 0 == 48)) (sym (cond-true (starts_with_minus w) _ _ minus) ∙ plain)).0
      | inr none ↦
          let digits : is_plain_digits w ≡ true = sym (cond-false (starts_with_minus w) _ _ none) ∙ plain in
          ap is_plain_digits (without_leading_sign-digits w (is_plain_digits-parts w digits).0) ∙ digits
    ]

pub negative-plain : (w : List ℕ) → is_plain_number w ≡ true → starts_with_minus w ≡ true → 0 < digits_value 10 (without_leading_sign w)
negative-plain [] plain minus = cc
negative-plain (c ∷ cs) plain minus =
    let both = and_parts (is_plain_digits cs) (not (get_or cs 0 0 == 48)) (sym (cond-true (starts_with_minus (c ∷ cs)) _ _ minus) ∙ plain) in
    let rest : without_leading_sign (c ∷ cs) ≡ cs = cond-true (starts_with_minus (c ∷ cs)) cs _ minus in
    subst (λ xs. 0 < digits_value 10 xs) (sym rest) (worth (digits_value 10 cs) cs (digits_text-plain cs both.0) both.1)
  where
    worth : (n : ℕ) (ds : List ℕ) → digits_text n ≡ ds → not (get_or ds 0 0 == 48) ≡ true → 0 < n
    worth zero ds text leads =
        let zero_leads : get_or ds 0 0 ≡ 48 = ap (λ xs. get_or xs 0 0) (sym text ∙ digits_text-digit 0 (omega arith)) in
        absurd (grind (arith, nat_tests))
    worth (suc n) ds text leads = omega arith

-- the order of numbers by their signs and what follows
pub below-negative : (a b : List ℕ) → starts_with_minus a ≡ true → starts_with_minus b ≡ true → (digits_value 10 (without_leading_sign b) < digits_value 10 (without_leading_sign a)) ↔ (number_of a <ℤ number_of b)
below-negative a b minus_a minus_b =
    let is_a = number_of-signed a minus_a in
    let is_b = number_of-signed b minus_b in
    rw (is_a, is_b) (both (digits_value 10 (without_leading_sign a)) (digits_value 10 (without_leading_sign b)))
  where
    both : (m n : ℕ) → (n < m) ↔ (neg_ℤ (pos m) <ℤ neg_ℤ (pos n))
    both m n = (λ less. omega (arith, ints), λ less. omega (arith, ints))

pub below-positive : (a b : List ℕ) → starts_with_minus a ≡ false → starts_with_minus b ≡ false → (digits_value 10 (without_leading_sign a) < digits_value 10 (without_leading_sign b)) ↔ (number_of a <ℤ number_of b)
below-positive a b none_a none_b =
    let is_a = number_of-unsigned a none_a in
    let is_b = number_of-unsigned b none_b in
    (λ less. subst (λ z. z <ℤ number_of b) (sym is_a) (subst (λ z. pos (digits_value 10 (without_leading_sign a)) <ℤ z) (sym is_b) (omega (arith, ints))), λ less. omega (arith, ints))

pub below-signs : (a b : List ℕ) → is_plain_number a ≡ true → starts_with_minus a ≡ true → starts_with_minus b ≡ false → number_of a <ℤ number_of b
below-signs a b plain minus none =
    let some = negative-plain a plain minus in
    let is_a = number_of-signed a minus in
    let is_b = number_of-unsigned b none in
    subst (λ z. z <ℤ number_of b) (sym is_a) (subst (λ z. neg_ℤ (pos (digits_value 10 (without_leading_sign a))) <ℤ z) (sym is_b) (omega (arith, ints)))

pub above-signs : (a b : List ℕ) → starts_with_minus a ≡ false → starts_with_minus b ≡ true → number_of a <ℤ number_of b → ⊥
above-signs a b none minus less =
    let is_a = number_of-unsigned a none in
    let is_b = number_of-signed b minus in
    omega (arith, ints)

-- the tests of a reader, as these facts
pub both-negative : (a b x y : List ℕ) (r : Bool) → get_or a 0 0 ≡ 45 → get_or b 0 0 ≡ 45 → x ≡ without_leading_sign a → y ≡ without_leading_sign b → IsTrue r ↔ (digits_value 10 y < digits_value 10 x) → IsTrue r ↔ (number_of a <ℤ number_of b)
both-negative a b x y r minus_a minus_b is_x is_y told =
    let order : (digits_value 10 y < digits_value 10 x) ↔ (number_of a <ℤ number_of b) = rw (is_x, is_y) (below-negative a b (eq-eqb _ 45 minus_a) (eq-eqb _ 45 minus_b)) in
    (λ holds. order.0 (told.0 holds), λ less. told.1 (order.1 less))

pub both-positive : (a b x y : List ℕ) (r : Bool) → (get_or a 0 0 ≡ 45 → ⊥) → (get_or b 0 0 ≡ 45 → ⊥) → x ≡ without_leading_sign a → y ≡ without_leading_sign b → IsTrue r ↔ (digits_value 10 x < digits_value 10 y) → IsTrue r ↔ (number_of a <ℤ number_of b)
both-positive a b x y r none_a none_b is_x is_y told =
    let order : (digits_value 10 x < digits_value 10 y) ↔ (number_of a <ℤ number_of b) = rw (is_x, is_y) (below-positive a b (ne_eqb _ 45 none_a) (ne_eqb _ 45 none_b)) in
    (λ holds. order.0 (told.0 holds), λ less. told.1 (order.1 less))

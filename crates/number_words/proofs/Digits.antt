-- The digits of a natural number of any size, and what digits are worth.
use Rattle.std.proofs.Common.{◌≡◌, ℕ, zero, suc, ◌+◌, ◌*◌, ◌/◌, ◌%◌, ◌<◌, ◌≤◌, ◌^◌, true, false, ◌&&◌, ◌||◌, not, ◌==◌, List, [], ◌∷◌, ◌++◌, map, length, get_or, length-append, pow-suc, sym, refl, ap, ◌∙◌, subst, arith, inl, inr}
use Rattle.std.specs.Prelude.{decimal}
use Rattle.std.specs.Int.Digits.{digits_of}
use Rattle.std.specs.List.{list_all}
use Rattle.std.specs.Str.{all_ascii_digits}
use Rattle.std.specs.Str.Parse.{digits_value, digits_value_after}
use Rattle.std.specs.Char.{is_ascii_digit, digit_value}
use Rattle.std.proofs.lemmas.Bool.{cases_lt, and_parts, and_from}
use Rattle.std.proofs.lemmas.Bool.Decides.{nat_tests}
use Rattle.std.proofs.lemmas.Fmt.{decimal_by_steps_wide}
use Rattle.std.proofs.lemmas.Int.Digits.{digits_of_step, digits_value_push}
use Rattle.std.proofs.lemmas.List.{append-nil, append_assoc, map_push, get_or_append_left}
use Rattle.std.proofs.lemmas.List.Folds.{list_all-append}
use Rattle.std.proofs.lemmas.Str.Parse.{numerals_by_value, tells_all_ascii_digits, digits_value_short}
use Rattle.number_words.specs.Number.{is_digits, is_plain_digits, digits_text}

-- a digit as text, and back
pub is_ascii_digit-text : (d : ℕ) → d < 10 → is_ascii_digit (48 + d) ≡ true
is_ascii_digit-text d low = grind (arith, nat_tests)

pub digit_value-text : (d : ℕ) → d < 10 → digit_value (48 + d) ≡ d
digit_value-text d low = grind (arith, nat_tests)

-- the value of a byte that is a digit
pub digit_value-of : (c : ℕ) → is_ascii_digit c ≡ true → (48 ≤ c) × (c ≤ 57) × (digit_value c + 48 ≡ c)
digit_value-of c digit = (grind (arith, nat_tests), grind (arith, nat_tests), grind (arith, nat_tests))

-- the test of each byte is the test of digits
pub list_all-digits : (ds : List ℕ) → list_all is_ascii_digit ds ≡ all_ascii_digits ds
list_all-digits [] = refl
list_all-digits (c ∷ cs) = ap (λ b. is_ascii_digit c && b) (list_all-digits cs)

-- whether both parts are digits alone
pub all_ascii_digits-append : (xs ys : List ℕ) → all_ascii_digits (xs ++ ys) ≡ all_ascii_digits xs && all_ascii_digits ys
all_ascii_digits-append xs ys =
    sym (list_all-digits (xs ++ ys)) ∙ list_all-append is_ascii_digit xs ys
    ∙ ap (λ b. b && list_all is_ascii_digit ys) (list_all-digits xs) ∙ ap (λ b. all_ascii_digits xs && b) (list_all-digits ys)

pub digits_append : (xs ys : List ℕ) → all_ascii_digits xs ≡ true → all_ascii_digits ys ≡ true → all_ascii_digits (xs ++ ys) ≡ true
digits_append xs ys a b = all_ascii_digits-append xs ys ∙ and_from _ _ a b

-- a number below ten is one digit
digits_of-digit : (n : ℕ) → 0 < n → n < 10 → digits_of 10 n ≡ n ∷ []
digits_of-digit n some low =
    let front : n / 10 ≡ 0 = omega arith in
    let last : n % 10 ≡ n = omega arith in
    digits_of_step 10 n (omega arith) some ∙ ap (λ q. digits_of 10 q ++ (n % 10 ∷ [])) front ∙ ap (λ d. d ∷ []) last

digits_text-some : (n : ℕ) → 0 < n → digits_text n ≡ map (λ digit. 48 + digit) (digits_of 10 n)
unfolding digits_text
digits_text-some n some = let no_zero : n == 0 ≡ false = grind (arith, nat_tests) in rw no_zero refl

pub digits_text-digit : (n : ℕ) → n < 10 → digits_text n ≡ (48 + n) ∷ []
unfolding digits_text
digits_text-digit zero low = refl
digits_text-digit (suc n) low = digits_text-some (suc n) (omega arith) ∙ ap (map (λ digit. 48 + digit)) (digits_of-digit (suc n) (omega arith) low)

-- the last digit stands behind those of a tenth
pub digits_text-step : (n : ℕ) → 10 ≤ n → digits_text n ≡ digits_text (n / 10) ++ ((48 + n % 10) ∷ [])
digits_text-step n high =
    digits_text-some n (omega arith) ∙ ap (map (λ digit. 48 + digit)) (digits_of_step 10 n (omega arith) (omega arith))
    ∙ map_push (λ digit. 48 + digit) (digits_of 10 (n / 10)) (n % 10)
    ∙ ap (λ ds. ds ++ ((48 + n % 10) ∷ [])) (sym (digits_text-some (n / 10) (omega arith)))

-- induction on the digits of a number: one digit, then one more at the end
module _ (P : ℕ → List ℕ → Type 0) (one : (n : ℕ) → n < 10 → P n ((48 + n) ∷ [])) (more : (n : ℕ) (ds : List ℕ) → 10 ≤ n → P (n / 10) ds → P n (ds ++ ((48 + n % 10) ∷ []))) where
  up_to : (k n : ℕ) → n ≤ k → P n (digits_text n)
  up_to zero n le = subst (P n) (sym (digits_text-digit n (omega arith))) (one n (omega arith))
  up_to (suc k) n le =
      elim (cases_lt n 10) [
        | inl low ↦ subst (P n) (sym (digits_text-digit n low)) (one n low)
        | inr high ↦ subst (P n) (sym (digits_text-step n high)) (more n (digits_text (n / 10)) high (up_to k (n / 10) (omega arith)))
      ]

  pub digits_text_by_steps : (n : ℕ) → P n (digits_text n)
  digits_text_by_steps n = up_to n n (omega arith)

-- std's text of a number is the same, up to 64 digits
pub digits_text-decimal : (n : ℕ) → n < 10 ^ 64 → digits_text n ≡ decimal n
digits_text-decimal = decimal_by_steps_wide (λ n ds. digits_text n ≡ ds) digits_text-digit (λ n ds high same. digits_text-step n high ∙ ap (λ xs. xs ++ ((48 + n % 10) ∷ [])) same)

-- digits that spell a number, the first of which is no zero where the number is none
pub record Spells (n : ℕ) (ds : List ℕ) : Type 0 where
  pub digits : all_ascii_digits ds ≡ true
  pub value : digits_value 10 ds ≡ n
  pub nonempty : 0 < length ds
  pub leads : 0 < n → 48 < get_or ds 0 0
  pub zero : n ≡ 0 → length ds ≡ 1

spells_one : (n : ℕ) → n < 10 → Spells n ((48 + n) ∷ [])
spells_one n low = record {
  digits = and_from _ _ (is_ascii_digit-text n low) refl;
  value = omega (arith, digit_value-text n low);
  nonempty = omega arith;
  leads = λ some. omega arith;
  zero = λ none. refl;
}

spells_more : (n : ℕ) (ds : List ℕ) → 10 ≤ n → Spells (n / 10) ds → Spells n (ds ++ ((48 + n % 10) ∷ []))
spells_more n ds high front = record {
  digits = digits_append ds _ front.digits (and_from _ _ (is_ascii_digit-text (n % 10) (omega arith)) refl);
  value = digits_value_push 10 ds (48 + n % 10) ∙ omega (arith, front.value, digit_value-text (n % 10) (omega arith));
  nonempty = omega (arith, length-append ds ((48 + n % 10) ∷ []));
  leads = λ some. omega (arith, front.leads (omega arith), get_or_append_left ds ((48 + n % 10) ∷ []) 0 0 front.nonempty);
  zero = λ none. absurd (omega arith);
}

pub spells-digits_text : (n : ℕ) → Spells n (digits_text n)
spells-digits_text = digits_text_by_steps Spells spells_one spells_more

-- more digits behind a number that is not 0
digits_text-after : (n : ℕ) (ds : List ℕ) → 0 < n → all_ascii_digits ds ≡ true → digits_text (digits_value_after 10 n ds) ≡ digits_text n ++ ds
digits_text-after n [] some digits = sym (append-nil (digits_text n))
digits_text-after n (c ∷ cs) some digits =
    let both = and_parts (is_ascii_digit c) (all_ascii_digits cs) digits in
    let digit = digit_value-of c both.0 in
    let m : ℕ = n * 10 + digit_value c in
    let front : m / 10 ≡ n = omega arith in
    let last : 48 + m % 10 ≡ c = omega arith in
    digits_text-after m cs (omega arith) both.1
    ∙ ap (λ xs. xs ++ cs) (digits_text-step m (omega arith) ∙ ap (λ q. digits_text q ++ ((48 + m % 10) ∷ [])) front ∙ ap (λ d. digits_text n ++ (d ∷ [])) last)
    ∙ append_assoc (digits_text n) (c ∷ []) cs

-- digits without a leading zero, or `0` itself, are the text of their value
pub digits_text-digits_value : (ds : List ℕ) → all_ascii_digits ds ≡ true → 0 < length ds → (get_or ds 0 0 ≡ 48 → length ds ≡ 1) → digits_text (digits_value 10 ds) ≡ ds
digits_text-digits_value [] digits some leads = absurd (omega arith)
digits_text-digits_value (c ∷ []) digits some leads =
    let both = and_parts (is_ascii_digit c) true digits in
    let digit = digit_value-of c both.0 in
    digits_text-digit (0 * 10 + digit_value c) (omega arith) ∙ ap (λ x. x ∷ []) (omega arith)
digits_text-digits_value (c ∷ e ∷ cs) digits some leads =
    let both = and_parts (is_ascii_digit c) (all_ascii_digits (e ∷ cs)) digits in
    let digit = digit_value-of c both.0 in
    let leading : c ≡ 48 → ⊥ = λ z. omega (arith, leads z) in
    let same : 48 + (0 * 10 + digit_value c) ≡ c = omega arith in
    digits_text-after (0 * 10 + digit_value c) (e ∷ cs) (omega arith) both.1
    ∙ ap (λ xs. xs ++ (e ∷ cs)) (digits_text-digit (0 * 10 + digit_value c) (omega arith) ∙ ap (λ x. x ∷ []) same)

-- digits behind digits
pub digits_value_after-append : (xs ys : List ℕ) (n : ℕ) → digits_value_after 10 n (xs ++ ys) ≡ digits_value_after 10 (digits_value_after 10 n xs) ys
digits_value_after-append [] ys n = refl
digits_value_after-append (x ∷ xs) ys n = digits_value_after-append xs ys (n * 10 + digit_value x)

weight_more : (n d p w whole last : ℕ) → whole ≡ (n * 10 + d) * p + w → last ≡ (0 * 10 + d) * p + w → whole ≡ n * (p * 10) + last
weight_more n d p w whole last a b = omega arith

-- digits behind a value, by their weight
pub digits_value_after-weight : (ds : List ℕ) (n : ℕ) → digits_value_after 10 n ds ≡ n * 10 ^ length ds + digits_value 10 ds
digits_value_after-weight [] n = omega arith
digits_value_after-weight (c ∷ cs) n =
    rw (pow-suc 10 (length cs))
    (weight_more n (digit_value c) (10 ^ length cs) (digits_value 10 cs) _ _
    (digits_value_after-weight cs (n * 10 + digit_value c)) (digits_value_after-weight cs (0 * 10 + digit_value c)))

-- digits are worth less than a one behind which as many zeros stand
pub digits_value-below : (ds : List ℕ) → all_ascii_digits ds ≡ true → digits_value 10 ds < 10 ^ length ds
digits_value-below ds digits = digits_value_short (numerals_by_value (λ xs. all_ascii_digits xs ≡ true) tells_all_ascii_digits) ds (length ds) digits (omega arith)

-- the tests, as facts
pub is_digits-parts : (ds : List ℕ) → is_digits ds ≡ true → (0 < length ds) × (all_ascii_digits ds ≡ true)
is_digits-parts ds digits =
    let both = and_parts (not (length ds == 0)) (all_ascii_digits ds) digits in
    (grind (arith, nat_tests, both.0), both.1)

pub is_digits-from : (ds : List ℕ) → 0 < length ds → all_ascii_digits ds ≡ true → is_digits ds ≡ true
is_digits-from ds some digits = and_from _ _ (grind (arith, nat_tests)) digits

pub is_plain_digits-parts : (ds : List ℕ) → is_plain_digits ds ≡ true → (is_digits ds ≡ true) × (get_or ds 0 0 ≡ 48 → length ds ≡ 1)
is_plain_digits-parts ds plain =
    let both = and_parts (is_digits ds) (not (get_or ds 0 0 == 48) || length ds == 1) plain in
    (both.0, λ zero_leads. alone both.1 zero_leads)
  where
    alone : (not (get_or ds 0 0 == 48) || length ds == 1) ≡ true → get_or ds 0 0 ≡ 48 → length ds ≡ 1
    alone h leads = grind (arith, nat_tests)

pub is_plain_digits-from : (ds : List ℕ) → is_digits ds ≡ true → (get_or ds 0 0 ≡ 48 → length ds ≡ 1) → is_plain_digits ds ≡ true
is_plain_digits-from ds digits leads = and_from _ _ digits (grind (arith, nat_tests))

-- the text of a number is plain
pub is_plain_digits-digits_text : (n : ℕ) → is_plain_digits (digits_text n) ≡ true
is_plain_digits-digits_text n =
    let spells = spells-digits_text n in
    is_plain_digits-from (digits_text n) (is_digits-from (digits_text n) spells.nonempty spells.digits) (λ zero_leads. one_digit n (digits_text n) spells zero_leads)
  where
    one_digit : (n : ℕ) (ds : List ℕ) → Spells n ds → get_or ds 0 0 ≡ 48 → length ds ≡ 1
    one_digit zero ds spells zero_leads = spells.zero refl
    one_digit (suc n) ds spells zero_leads = absurd (omega (arith, spells.leads (omega arith)))

-- plain digits are the text of their value
pub digits_text-plain : (ds : List ℕ) → is_plain_digits ds ≡ true → digits_text (digits_value 10 ds) ≡ ds
digits_text-plain ds plain =
    let parts = is_plain_digits-parts ds plain in
    let digits = is_digits-parts ds parts.0 in
    digits_text-digits_value ds digits.1 digits.0 parts.1

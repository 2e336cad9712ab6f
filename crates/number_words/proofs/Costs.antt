-- What words spell as costs.
use Rattle.std.proofs.Common.{◌≡◌, ℕ, ◌+◌, ◌*◌, ◌/◌, ◌%◌, ◌<◌, ◌^◌, true, false, ◌&&◌, ◌==◌, List, [], ◌∷◌, ◌++◌, length, take, drop, take_at, sym, refl, ap, ◌∙◌, subst, arith}
use Rattle.std.specs.Char.{is_ascii_digit}
use Rattle.std.specs.List.{position_or_len}
use Rattle.std.specs.Str.{all_ascii_digits}
use Rattle.std.specs.Str.Parse.{digits_value, digits_value_after}
use Rattle.std.proofs.lemmas.Bool.{and_parts, and_from, eqb-true}
use Rattle.std.proofs.lemmas.Bool.Decides.{nat_tests}
use Rattle.std.proofs.lemmas.List.{drop_at, drop-drop, length-drop}
use Rattle.std.proofs.lemmas.List.Sums.{split_at_first, passes_at_first}
use Rattle.number_words.specs.Number.{is_digits, is_plain_digits, digits_text}
use Rattle.number_words.specs.Cost.{is_point, units_of, decimals_of, is_cost, spelled_cost, is_plain_cost, decimals_text, micro_text}
use Rattle.number_words.proofs.Digits.{spells-digits_text, digits_text-digits_value, digits_text-plain, digits_value_after-append, digits_value_after-weight, digits_value-below, is_digits-parts, is_digits-from, is_plain_digits-digits_text, is_ascii_digit-text, digit_value-text}

-- the first point stands behind the digits
position-point : (ds zs : List ℕ) → all_ascii_digits ds ≡ true → position_or_len is_point (ds ++ 46 ∷ zs) ≡ length ds
position-point [] zs digits = refl
position-point (x ∷ xs) zs digits =
    let both = and_parts (is_ascii_digit x) (all_ascii_digits xs) digits in
    let part : x == 46 ≡ false = grind (arith, nat_tests, both.0) in
    rw (part, position-point xs zs both.1) (omega arith)

pub units_of-parts : (ds zs : List ℕ) → all_ascii_digits ds ≡ true → units_of (ds ++ 46 ∷ zs) ≡ ds
units_of-parts ds zs digits = ap (λ n. take n (ds ++ 46 ∷ zs)) (position-point ds zs digits) ∙ take_at ds (46 ∷ zs) (length ds) refl

pub decimals_of-parts : (ds zs : List ℕ) → all_ascii_digits ds ≡ true → decimals_of (ds ++ 46 ∷ zs) ≡ zs
decimals_of-parts ds zs digits =
    ap (λ n. drop (n + 1) (ds ++ 46 ∷ zs)) (position-point ds zs digits) ∙ sym (drop-drop 1 (length ds) (ds ++ 46 ∷ zs)) ∙ ap (drop 1) (drop_at ds (46 ∷ zs) (length ds) refl)

-- a word with something behind its first point is what stands before it, the point, and what stands after it
cost_parts : (w : List ℕ) → 0 < length (decimals_of w) → w ≡ units_of w ++ 46 ∷ decimals_of w
cost_parts w some =
    let inside : position_or_len is_point w < length w = omega (arith, length-drop (position_or_len is_point w + 1) w) in
    split_at_first is_point w 0 inside ∙ ap (λ c. units_of w ++ c ∷ decimals_of w) (eqb-true _ 46 (passes_at_first is_point w 0 inside))

-- six decimals
abbrev pub six : ℕ → List ℕ
six n = drop 1 (decimals_text n)

pub all_ascii_digits-six : (n : ℕ) → all_ascii_digits (six n) ≡ true
all_ascii_digits-six n =
    rw (is_ascii_digit-text (n / 100000 % 10) (omega arith), is_ascii_digit-text (n / 10000 % 10) (omega arith), is_ascii_digit-text (n / 1000 % 10) (omega arith), is_ascii_digit-text (n / 100 % 10) (omega arith), is_ascii_digit-text (n / 10 % 10) (omega arith), is_ascii_digit-text (n / 1 % 10) (omega arith)) refl

digits_value_after-six : (m n : ℕ) → n < 1000000 → digits_value_after 10 m (six n) ≡ m * 1000000 + n
digits_value_after-six m n low =
    let tens : n / 10 * 10 + n % 10 ≡ n = omega arith in
    let hundreds : n / 100 * 10 + n / 10 % 10 ≡ n / 10 = omega arith in
    let thousands : n / 1000 * 10 + n / 100 % 10 ≡ n / 100 = omega arith in
    let ten_thousands : n / 10000 * 10 + n / 1000 % 10 ≡ n / 1000 = omega arith in
    let hundred_thousands : n / 100000 * 10 + n / 10000 % 10 ≡ n / 10000 = omega arith in
    let first : n / 100000 % 10 ≡ n / 100000 = omega arith in
    let last : n / 1 % 10 ≡ n % 10 = omega arith in
    rw (digit_value-text (n / 100000 % 10) (omega arith), digit_value-text (n / 10000 % 10) (omega arith), digit_value-text (n / 1000 % 10) (omega arith), digit_value-text (n / 100 % 10) (omega arith), digit_value-text (n / 10 % 10) (omega arith), digit_value-text (n / 1 % 10) (omega arith))
    (omega arith)

-- as many digits of one value are the same, since they are so behind a 1
same_digits : (xs ys : List ℕ) → all_ascii_digits xs ≡ true → all_ascii_digits ys ≡ true → length xs ≡ length ys → digits_value 10 xs ≡ digits_value 10 ys → xs ≡ ys
same_digits xs ys digits_x digits_y long same =
    let value : digits_value 10 (49 ∷ xs) ≡ digits_value 10 (49 ∷ ys) =
    digits_value_after-weight xs 1 ∙ ap (λ k. 1 * 10 ^ k + digits_value 10 xs) long ∙ ap (λ v. 1 * 10 ^ length ys + v) same ∙ sym (digits_value_after-weight ys 1) in
    ap (drop 1) (sym (behind_one xs digits_x) ∙ ap digits_text value ∙ behind_one ys digits_y)
  where
    behind_one : (ds : List ℕ) → all_ascii_digits ds ≡ true → digits_text (digits_value 10 (49 ∷ ds)) ≡ 49 ∷ ds
    behind_one ds digits = digits_text-digits_value (49 ∷ ds) (and_from _ _ refl digits) (omega arith) (λ zero_leads. absurd (omega (arith, zero_leads)))

-- six digits are the decimals of their value
decimals_text-digits_value : (ds : List ℕ) → length ds ≡ 6 → all_ascii_digits ds ≡ true → decimals_text (digits_value 10 ds) ≡ 46 ∷ ds
decimals_text-digits_value ds long digits =
    let n = digits_value 10 ds in
    let below : n < 1000000 = subst (λ k. n < 10 ^ k) long (digits_value-below ds digits) in
    ap (λ zs. 46 ∷ zs) (same_digits (six n) ds (all_ascii_digits-six n) digits (sym long) (digits_value_after-six 0 n below ∙ omega arith))

pub micro_text-is : (n : ℕ) → micro_text n ≡ digits_text (n / 1000000) ++ 46 ∷ six (n % 1000000)
unfolding micro_text
micro_text-is n = refl

-- the parts of a printed cost
pub units_of-micro_text : (n : ℕ) → units_of (micro_text n) ≡ digits_text (n / 1000000)
units_of-micro_text n = ap units_of (micro_text-is n) ∙ units_of-parts (digits_text (n / 1000000)) (six (n % 1000000)) (spells-digits_text (n / 1000000)).digits

pub decimals_of-micro_text : (n : ℕ) → decimals_of (micro_text n) ≡ six (n % 1000000)
decimals_of-micro_text n = ap decimals_of (micro_text-is n) ∙ decimals_of-parts (digits_text (n / 1000000)) (six (n % 1000000)) (spells-digits_text (n / 1000000)).digits

-- a printed cost is a plain cost, with that value
pub is_cost-micro_text : (n : ℕ) → is_cost (micro_text n) ≡ true
is_cost-micro_text n =
    let spells = spells-digits_text (n / 1000000) in
    and_from _ _ (ap is_digits (units_of-micro_text n) ∙ is_digits-from (digits_text (n / 1000000)) spells.nonempty spells.digits)
    (ap is_digits (decimals_of-micro_text n) ∙ is_digits-from (six (n % 1000000)) (omega arith) (all_ascii_digits-six (n % 1000000)))

pub is_plain_cost-micro_text : (n : ℕ) → is_plain_cost (micro_text n) ≡ true
is_plain_cost-micro_text n =
    and_from _ _ (and_from _ _ (is_cost-micro_text n) (ap is_plain_digits (units_of-micro_text n) ∙ is_plain_digits-digits_text (n / 1000000)))
    (ap (λ ds. length ds == 6) (decimals_of-micro_text n))

pub spelled_cost-micro_text : (n : ℕ) → spelled_cost (micro_text n) ≡ n
spelled_cost-micro_text n =
    let units = digits_text (n / 1000000) in
    ap (λ ds. digits_value 10 (ds ++ decimals_of (micro_text n))) (units_of-micro_text n) ∙ ap (λ ds. digits_value 10 (units ++ ds)) (decimals_of-micro_text n)
    ∙ digits_value_after-append units (six (n % 1000000)) 0
    ∙ ap (λ m. digits_value_after 10 m (six (n % 1000000))) (spells-digits_text (n / 1000000)).value
    ∙ digits_value_after-six (n / 1000000) (n % 1000000) (omega arith) ∙ omega arith

-- a plain cost is the text of its value
pub micro_text-spelled_cost : (w : List ℕ) → is_plain_cost w ≡ true → micro_text (spelled_cost w) ≡ w
unfolding micro_text
micro_text-spelled_cost w plain =
    let us = units_of w in
    let ds = decimals_of w in
    let both = and_parts (is_cost w && is_plain_digits us) (length ds == 6) plain in
    let units = and_parts (is_cost w) (is_plain_digits us) both.0 in
    let tests = and_parts (is_digits us) (is_digits ds) units.0 in
    let digits = is_digits-parts ds tests.1 in
    let long : length ds ≡ 6 = eqb-true (length ds) 6 both.1 in
    let value : spelled_cost w ≡ digits_value 10 us * 1000000 + digits_value 10 ds =
    digits_value_after-append us ds 0 ∙ digits_value_after-weight ds (digits_value 10 us) ∙ ap (λ k. digits_value 10 us * 10 ^ k + digits_value 10 ds) long in
    let below : digits_value 10 ds < 1000000 = subst (λ k. digits_value 10 ds < 10 ^ k) long (digits_value-below ds digits.1) in
    let above : spelled_cost w / 1000000 ≡ digits_value 10 us = omega arith in
    let rest : spelled_cost w % 1000000 ≡ digits_value 10 ds = omega arith in
    ap (λ n. digits_text n ++ decimals_text (spelled_cost w % 1000000)) above ∙ ap (λ xs. xs ++ decimals_text (spelled_cost w % 1000000)) (digits_text-plain us units.1)
    ∙ ap (λ n. us ++ decimals_text n) rest ∙ ap (λ xs. us ++ xs) (decimals_text-digits_value ds long digits.1)
    ∙ sym (cost_parts w digits.0)

-- What a reader of words knows, as the definitions say it.
use Rattle.std.proofs.Common.{◌≡◌, ℕ, ◌*◌, ◌<◌, ◌≤◌, true, false, cond, not, ◌&&◌, ◌==◌, nat_le, List, [], ◌∷◌, ◌++◌, length, take, drop, Ok, Err, min, sym, refl, ap, ◌∙◌, arith, inl, inr, take_all}
use Rattle.std.specs.Prelude.{codes}
use Rattle.std.specs.List.{list_all}
use Rattle.std.specs.Str.{all_ascii_digits}
use Rattle.std.specs.Str.Parse.{digits_value, without_leading_plus}
use Rattle.std.proofs.lemmas.Bool.{cases_lt, and_parts}
use Rattle.std.proofs.lemmas.Bool.Decides.{nat_tests}
use Rattle.std.proofs.lemmas.List.{drop_all, take-append-drop}
use Rattle.location_terms.specs.declared.limits.TheConstants.{MAX_AMOUNT}
use Rattle.number_words.specs.Cost.{units_of, decimals_of}
use Rattle.number_words.specs.Number.{is_digits}
use Rattle.number_words.proofs.Digits.{all_ascii_digits-append, is_digits-parts, digits_value_after-append}
use Rattle.fixed_cost.specs.declared.amount.AmountFault.TheVariants.{NotANumber, TooFine, TooBig}
use Rattle.fixed_cost.specs.Amount.{amount_of, count_of, is_numeral, is_in_millionths, millionths, six_places}

-- digits in two parts, of which the first is not empty
pub is_digits-both : (xs ys : List ℕ) → length xs == 0 ≡ false → all_ascii_digits xs && all_ascii_digits ys ≡ is_digits (xs ++ ys)
is_digits-both [] ys full = cc
is_digits-both (x ∷ xs) ys full =
    let some : length (x ∷ xs ++ ys) == 0 ≡ false = grind (arith, nat_tests) in
    sym (all_ascii_digits-append (x ∷ xs) ys) ∙ ap (λ b. not b && all_ascii_digits (x ∷ xs ++ ys)) (sym some)

pub both_digits : (xs ys : List ℕ) → is_digits (xs ++ ys) ≡ true → (all_ascii_digits xs ≡ true) × (all_ascii_digits ys ≡ true)
both_digits xs ys digits = and_parts (all_ascii_digits xs) (all_ascii_digits ys) (sym (all_ascii_digits-append xs ys) ∙ (is_digits-parts (xs ++ ys) digits).1)

-- a part of digits is digits
pub digits_cut : (n : ℕ) (ds : List ℕ) → all_ascii_digits ds ≡ true → (all_ascii_digits (take n ds) ≡ true) × (all_ascii_digits (drop n ds) ≡ true)
digits_cut n ds digits = and_parts (all_ascii_digits (take n ds)) (all_ascii_digits (drop n ds)) (sym (all_ascii_digits-append (take n ds) (drop n ds)) ∙ ap all_ascii_digits (take-append-drop n ds) ∙ digits)

-- the decimals that are there, and as many zeros as are not
pub six_places-is : (ds : List ℕ) (n : ℕ) → n ≡ min (length ds) 6 → take n ds ++ drop n (codes "000000") ≡ six_places ds
six_places-is ds n is =
    elim (cases_lt (length ds) 6) [
      | inl short ↦
          let same : n ≡ length ds = omega arith in
          ap (λ k. take k ds ++ drop k (codes "000000")) same ∙ ap (λ xs. xs ++ drop (length ds) (codes "000000")) (take_all (length ds) ds (omega arith) ∙ sym (take_all 6 ds (omega arith)))
      | inr long ↦
          let same : n ≡ 6 = omega arith in
          ap (λ k. take k ds ++ drop k (codes "000000")) same ∙ ap (λ xs. take 6 ds ++ xs) (sym (drop_all (length ds) (codes "000000") long))
    ]

-- where no decimals are there, the six places are zeros
pub six_zeros : (xs ds : List ℕ) → length ds == 0 ≡ true → digits_value 10 (xs ++ six_places ds) ≡ digits_value 10 xs * 1000000
six_zeros xs [] none = let whole = digits_value_after-append xs (codes "000000") 0 in omega (arith, whole)
six_zeros xs (d ∷ ds) none = let zero : length (d ∷ ds) ≡ 0 = grind (arith, nat_tests) in absurd (omega (arith, zero))

-- what is known of the parts of a word is known of the word
pub numeral-is : (word body units part : List ℕ) → body ≡ without_leading_plus word → units ≡ units_of body → part ≡ decimals_of body → is_digits (units ++ part) ≡ is_numeral word
numeral-is word body units part b u p = rw (u, p, b) refl

pub fine-is : (word body part : List ℕ) → body ≡ without_leading_plus word → part ≡ decimals_of body → list_all (λ c. c == 48) (drop 6 part) ≡ is_in_millionths word
fine-is word body part b p = rw (p, b) refl

pub millionths-is : (word body units part : List ℕ) → body ≡ without_leading_plus word → units ≡ units_of body → part ≡ decimals_of body → digits_value 10 (units ++ six_places part) ≡ millionths word
millionths-is word body units part b u p = rw (u, p, b) refl

-- a word by what it spells
pub amount_of-other : (word : List ℕ) → is_numeral word ≡ false → amount_of word ≡ Err NotANumber
unfolding amount_of
amount_of-other word other = rw other refl

pub amount_of-fine : (word : List ℕ) → is_numeral word ≡ true → is_in_millionths word ≡ false → amount_of word ≡ Err TooFine
unfolding amount_of
amount_of-fine word numeral fine = rw (numeral, fine) refl

pub amount_of-value : (word : List ℕ) → is_numeral word ≡ true → is_in_millionths word ≡ true → amount_of word ≡ cond (nat_le (millionths word) MAX_AMOUNT) (Ok (millionths word)) (Err TooBig)
unfolding amount_of
amount_of-value word numeral fine = rw (numeral, fine) refl

pub count_of-other : (word : List ℕ) → is_digits word ≡ false → count_of word ≡ Err NotANumber
unfolding count_of
count_of-other word other = rw other refl

pub count_of-digits : (word : List ℕ) → is_digits word ≡ true → count_of word ≡ cond (nat_le (digits_value 10 word) 4294967295) (Ok (digits_value 10 word)) (Err TooBig)
unfolding count_of
count_of-digits word digits = rw digits refl

-- a value against its limit, where it was read up to a cap
pub in_limit : (value limit cap read : ℕ) → read ≡ min value cap → limit < cap → read ≤ limit → cond (nat_le value limit) (Ok value) (Err TooBig) ≡ Ok read
in_limit value limit cap read is wide low =
    let same : value ≡ read = omega arith in
    let yes : nat_le value limit ≡ true = grind (arith, nat_tests) in
    rw yes (ap (λ n. Ok n) same)

pub past_limit : (value limit cap read : ℕ) → read ≡ min value cap → (read ≤ limit → ⊥) → cond (nat_le value limit) (Ok value) (Err TooBig) ≡ Err TooBig
past_limit value limit cap read is high =
    let no : nat_le value limit ≡ false = grind (arith, nat_tests, high) in
    rw no refl

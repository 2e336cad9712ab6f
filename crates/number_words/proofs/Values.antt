-- Steps of a reader of digits, and how digits compare.
use Rattle.std.proofs.Common.{◌≡◌, ℕ, ◌+◌, ◌-◌, ◌*◌, ◌<◌, ◌≤◌, ◌^◌, Bool, true, false, ◌==◌, nat_lt, min, List, [], ◌∷◌, ◌++◌, length, get_or, drop, sym, refl, ap, ◌∙◌, subst, arith, inl, inr}
use Rattle.std.specs.Prelude.{◌↔◌, IsTrue}
use Rattle.std.specs.Char.{is_ascii_digit, digit_value}
use Rattle.std.specs.Cmp.Lexicographic.{slice_cmp}
use Rattle.std.specs.Ordering.{nat_cmp, is_lt}
use Rattle.std.specs.Str.{all_ascii_digits}
use Rattle.std.specs.Str.Parse.{digits_value, digits_value_after}
use Rattle.std.proofs.Math.Nat.{mul-le-mul_right, pow-le-pow_right}
use Rattle.std.proofs.lemmas.Bool.{cases_lt, cases_order, and_parts, lt-ltb, le-ltb, ltb-true}
use Rattle.std.proofs.lemmas.Bool.Decides.{nat_tests}
use Rattle.std.proofs.lemmas.List.{at_drop_more, at_drop_all}
use Rattle.number_words.specs.Number.{is_plain_digits}
use Rattle.number_words.proofs.Digits.{digit_value-of, digits_value_after-append, digits_value_after-weight, digits_value-below, is_digits-parts, is_plain_digits-parts}

-- more digits never make a value less
digits_value_after-ge : (ds : List ℕ) (n : ℕ) → n ≤ digits_value_after 10 n ds
digits_value_after-ge [] n = omega arith
digits_value_after-ge (c ∷ cs) n = omega (arith, digits_value_after-ge cs (n * 10 + digit_value c))

-- a cap may be taken before the next digits or after them
capped-after : (cap : ℕ) (ds : List ℕ) (n : ℕ) → min (digits_value_after 10 (min n cap) ds) cap ≡ min (digits_value_after 10 n ds) cap
capped-after cap ds n =
    elim (cases_lt n cap) [
      | inl low ↦ ap (λ v. min (digits_value_after 10 v ds) cap) (omega arith)
      | inr high ↦ omega (arith, digits_value_after-ge ds (min n cap), digits_value_after-ge ds n)
    ]

pub capped-append : (cap : ℕ) (xs ys : List ℕ) (n : ℕ) → min (digits_value_after 10 (min (digits_value_after 10 n xs) cap) ys) cap ≡ min (digits_value_after 10 n (xs ++ ys)) cap
capped-append cap xs ys n = capped-after cap ys (digits_value_after 10 n xs) ∙ ap (λ v. min v cap) (sym (digits_value_after-append xs ys n))

-- one step of a reader along a list of digits, up to a cap
pub capped-digit : (cap v c : ℕ) (cs : List ℕ) → is_ascii_digit c ≡ true → min (digits_value_after 10 (min (v * 10 + (c - 48)) cap) cs) cap ≡ min (digits_value_after 10 v (c ∷ cs)) cap
capped-digit cap v c cs digit =
    let of = digit_value-of c digit in
    let same : c - 48 ≡ digit_value c = omega arith in
    capped-after cap cs (v * 10 + (c - 48)) ∙ ap (λ d. min (digits_value_after 10 (v * 10 + d) cs) cap) same

-- the value so far, and the digits from a place on, give the value behind all of them, up to a cap
pub record IsPushed (cap value : ℕ) (ds : List ℕ) (whole i : ℕ) : Type 0 where
  pub capped : whole ≤ cap
  pub digits : all_ascii_digits (drop i ds) ≡ true
  pub same : min (digits_value_after 10 whole (drop i ds)) cap ≡ min (digits_value_after 10 value ds) cap

digit-drop : (ds : List ℕ) (i : ℕ) → i < length ds → all_ascii_digits (drop i ds) ≡ true → (is_ascii_digit (get_or ds i 0) ≡ true) × (all_ascii_digits (drop (i + 1) ds) ≡ true)
digit-drop ds i inside digits = and_parts _ _ (sym (at_drop_more all_ascii_digits ds i 0 inside) ∙ digits)

pub digit_value-pushed : {cap value whole i : ℕ} {ds : List ℕ} → IsPushed cap value ds whole i → i < length ds → (48 ≤ get_or ds i 0) × (get_or ds i 0 - 48 ≤ 9)
digit_value-pushed {cap} {value} {whole} {i} {ds} pushed inside =
    let of = digit_value-of (get_or ds i 0) (digit-drop ds i inside pushed.digits).0 in
    (omega (arith, of), omega (arith, of))

pub pushed_more : {cap value whole i : ℕ} {ds : List ℕ} (new : ℕ) → IsPushed cap value ds whole i → i < length ds → new ≡ min (whole * 10 + (get_or ds i 0 - 48)) cap → IsPushed cap value ds new (i + 1)
pushed_more {cap} {value} {whole} {i} {ds} new pushed inside is =
    let here = digit-drop ds i inside pushed.digits in
    record {
      capped = omega (arith, is);
      digits = here.1;
      same = ap (λ v. min (digits_value_after 10 v (drop (i + 1) ds)) cap) is
          ∙ capped-digit cap whole (get_or ds i 0) (drop (i + 1) ds) here.0
          ∙ sym (at_drop_more (λ xs. min (digits_value_after 10 whole xs) cap) ds i 0 inside) ∙ pushed.same;
    }

pub pushed_all : {cap value whole i : ℕ} {ds : List ℕ} → IsPushed cap value ds whole i → length ds ≤ i → whole ≡ min (digits_value_after 10 value ds) cap
pushed_all {cap} {value} {whole} {i} {ds} pushed done =
    let last = at_drop_all (λ xs. min (digits_value_after 10 whole xs) cap) ds i done in
    omega (arith, last, pushed.same, pushed.capped)

-- digits that do not begin with a zero are worth a one behind which as many zeros stand as there are others
digits_value-least : (c : ℕ) (cs : List ℕ) → all_ascii_digits (c ∷ cs) ≡ true → (c ≡ 48 → ⊥) → 10 ^ length cs ≤ digits_value 10 (c ∷ cs)
digits_value-least c cs digits leads =
    let of = digit_value-of c (and_parts (is_ascii_digit c) (all_ascii_digits cs) digits).0 in
    let one : 1 * 10 ^ length cs ≤ (0 * 10 + digit_value c) * 10 ^ length cs = mul-le-mul_right (10 ^ length cs) (omega arith) in
    omega (arith, digits_value_after-weight cs (0 * 10 + digit_value c))

-- fewer plain digits are worth less
pub digits_value-shorter : (xs ys : List ℕ) → is_plain_digits xs ≡ true → is_plain_digits ys ≡ true → length xs < length ys → digits_value 10 xs < digits_value 10 ys
digits_value-shorter xs [] plain_x plain_y shorter = absurd (omega arith)
digits_value-shorter xs (c ∷ cs) plain_x plain_y shorter =
    let digits_x = is_digits-parts xs (is_plain_digits-parts xs plain_x).0 in
    let parts_y = is_plain_digits-parts (c ∷ cs) plain_y in
    let digits_y = is_digits-parts (c ∷ cs) parts_y.0 in
    let leads : c ≡ 48 → ⊥ = λ e. omega (arith, parts_y.1 e) in
    let least = digits_value-least c cs digits_y.1 leads in
    let below = digits_value-below xs digits_x.1 in
    let wide : 10 ^ length xs ≤ 10 ^ length cs = pow-le-pow_right {n = 10} (omega arith) (omega arith) in
    omega arith

-- a greater first digit is worth more than all digits behind a lesser one
first_decides : (d e p v w : ℕ) → d < e → v < p → d * p + v < e * p + w
first_decides d e p v w less below = let more : (d + 1) * p ≤ e * p = mul-le-mul_right p (omega arith) in omega arith

digits_value-first : (c : ℕ) (cs : List ℕ) → digits_value 10 (c ∷ cs) ≡ digit_value c * 10 ^ length cs + digits_value 10 cs
digits_value-first c cs = digits_value_after-weight cs (0 * 10 + digit_value c) ∙ ap (λ d. d * 10 ^ length cs + digits_value 10 cs) (omega arith)

-- as many digits are told apart by the first in which they differ
pub is_lt-slice_cmp : (xs ys : List ℕ) → all_ascii_digits xs ≡ true → all_ascii_digits ys ≡ true → length xs ≡ length ys → is_lt (slice_cmp nat_cmp xs ys) ≡ nat_lt (digits_value 10 xs) (digits_value 10 ys)
is_lt-slice_cmp [] [] digits_x digits_y long = refl
is_lt-slice_cmp [] (y ∷ ys) digits_x digits_y long = absurd (omega arith)
is_lt-slice_cmp (x ∷ xs) [] digits_x digits_y long = absurd (omega arith)
is_lt-slice_cmp (x ∷ xs) (y ∷ ys) digits_x digits_y long =
    let both_x = and_parts (is_ascii_digit x) (all_ascii_digits xs) digits_x in
    let both_y = and_parts (is_ascii_digit y) (all_ascii_digits ys) digits_y in
    let of_x = digit_value-of x both_x.0 in
    let of_y = digit_value-of y both_y.0 in
    let p = 10 ^ length xs in
    let wide : 10 ^ length ys ≡ p = ap (λ n. 10 ^ n) (omega arith) in
    let value_x = digits_value-first x xs in
    let value_y : digits_value 10 (y ∷ ys) ≡ digit_value y * p + digits_value 10 ys = digits_value-first y ys ∙ ap (λ q. digit_value y * q + digits_value 10 ys) wide in
    let below_x : digits_value 10 xs < p = digits_value-below xs both_x.1 in
    let below_y : digits_value 10 ys < p = subst (λ q. digits_value 10 ys < q) wide (digits_value-below ys both_y.1) in
    elim (cases_order x y) [
      | inl same ↦
          let not_less : nat_lt x y ≡ false = grind (arith, nat_tests) in
          let equal : x == y ≡ true = grind (arith, nat_tests) in
          rw (not_less, equal) (is_lt-slice_cmp xs ys both_x.1 both_y.1 (omega arith)
          ∙ later (digit_value x * p) (digits_value 10 xs) (digits_value 10 ys) _ _ value_x (value_y ∙ ap (λ d. d * p + digits_value 10 ys) (omega arith)))
      | inr (inl less) ↦
          let is : nat_lt x y ≡ true = grind (arith, nat_tests) in
          let first = first_decides (digit_value x) (digit_value y) p (digits_value 10 xs) (digits_value 10 ys) (omega arith) below_x in
          rw is (sym (lt-ltb _ _ (omega arith)))
      | inr (inr more) ↦
          let not_less : nat_lt x y ≡ false = grind (arith, nat_tests) in
          let other : x == y ≡ false = grind (arith, nat_tests) in
          let first = first_decides (digit_value y) (digit_value x) p (digits_value 10 ys) (digits_value 10 xs) (omega arith) below_y in
          rw (not_less, other) (sym (le-ltb _ _ (omega arith)))
    ]
  where
    later : (k a b v w : ℕ) → v ≡ k + a → w ≡ k + b → nat_lt a b ≡ nat_lt v w
    later k a b v w is_v is_w = grind (arith, nat_tests)

-- a test of lengths where these differ, and of the digits where not, decides which value is less
pub longer_is_more : (xs ys : List ℕ) → is_plain_digits xs ≡ true → is_plain_digits ys ≡ true → (length xs ≡ length ys → ⊥) → (IsTrue (nat_lt (length xs) (length ys))) ↔ (digits_value 10 xs < digits_value 10 ys)
longer_is_more xs ys plain_x plain_y other =
    (λ shorter. digits_value-shorter xs ys plain_x plain_y (ltb-true _ _ shorter), λ less. lt-ltb _ _ (shorter less))
  where
    shorter : digits_value 10 xs < digits_value 10 ys → length xs < length ys
    shorter less =
        elim (cases_order (length xs) (length ys)) [
          | inl same ↦ absurd (other same)
          | inr (inl is) ↦ is
          | inr (inr longer) ↦ absurd (omega (arith, digits_value-shorter ys xs plain_y plain_x longer))
        ]

pub first_difference : (xs ys : List ℕ) (r : Bool) → is_plain_digits xs ≡ true → is_plain_digits ys ≡ true → length xs ≡ length ys → r ≡ is_lt (slice_cmp nat_cmp xs ys) → IsTrue r ↔ (digits_value 10 xs < digits_value 10 ys)
first_difference xs ys r plain_x plain_y long is =
    let digits_x = (is_digits-parts xs (is_plain_digits-parts xs plain_x).0).1 in
    let digits_y = (is_digits-parts ys (is_plain_digits-parts ys plain_y).0).1 in
    let same : r ≡ nat_lt (digits_value 10 xs) (digits_value 10 ys) = is ∙ is_lt-slice_cmp xs ys digits_x digits_y long in
    (λ yes_it_is. ltb-true _ _ (sym same ∙ yes_it_is), λ less. same ∙ lt-ltb _ _ less)

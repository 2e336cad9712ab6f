-- Whole numbers, as words spell them.
use Rattle.std.specs.Prelude.{◌==◌, ℕ, suc, ◌+◌, ◌^◌, Bool, true, ◌&&◌, ◌||◌, not, List, [], ◌∷◌, length, drop, map, slice_index, ℤ, pos, negsuc, neg_ℤ, int_lt, if◌then◌else◌}
use Rattle.std.specs.Int.{int_max, int_min}
use Rattle.std.specs.Int.Digits.{digits_of}
use Rattle.std.specs.Str.{all_ascii_digits}
use Rattle.std.specs.Str.Parse.{starts_with_minus, without_leading_sign, signed_digits_value}

-- one digit or more, and nothing else
abbrev pub is_digits : List ℕ → Bool
is_digits word = not (length word == 0) && all_ascii_digits word

-- digits in their one spelling: no leading zero but in `0` itself
abbrev pub is_plain_digits : List ℕ → Bool
is_plain_digits word = is_digits word && (not (slice_index word 0 == 48) || length word == 1)

-- a number: a sign or none, and digits
abbrev pub is_number : List ℕ → Bool
is_number word = is_digits (without_leading_sign word)

-- the value of a number, of any size
abbrev pub number_of : List ℕ → ℤ
number_of word = signed_digits_value 10 word

-- a number in its one spelling: plain digits, behind `-` where it is below 0
abbrev pub is_plain_number : List ℕ → Bool
is_plain_number word =
    if starts_with_minus word then is_plain_digits (drop 1 word) && not (slice_index word 1 == 48)
    else is_plain_digits word

-- a natural number of any size in its one spelling. It is std's `decimal` up to 64 digits, where that ends
unfoldable pub digits_text : ℕ → List ℕ
digits_text n = if n == 0 then 48 ∷ [] else map (λ digit. 48 + digit) (digits_of 10 n)

-- a number in its one spelling
abbrev pub number_text : ℤ → List ℕ
number_text (pos n) = digits_text n
number_text (negsuc n) = 45 ∷ digits_text (suc n)

-- a number held between -10 ^ 30 and 10 ^ 30
abbrev pub clamped : ℤ → ℤ
clamped z = int_max (neg_ℤ (pos (10 ^ 30))) (int_min (pos (10 ^ 30)) z)

-- whether each number is greater than the one before it
abbrev pub is_rising : List ℤ → Bool
is_rising [] = true
is_rising (x ∷ []) = true
is_rising (x ∷ y ∷ zs) = int_lt x y && is_rising (y ∷ zs)

-- Costs, as words spell them: digits, a point and digits.
use Rattle.std.specs.Prelude.{◌==◌, ℕ, ◌+◌, ◌/◌, ◌%◌, Bool, ◌&&◌, List, [], ◌∷◌, ◌++◌, length, map}
use Rattle.std.specs.List.{before_first, after_first}
use Rattle.std.specs.Str.Parse.{digits_value}
use Rattle.number_words.specs.Number.{is_digits, is_plain_digits, digits_text}

-- a decimal point
abbrev pub is_point : ℕ → Bool
is_point b = b == 46

-- what stands before the point of a cost
abbrev pub units_of : List ℕ → List ℕ
units_of word = before_first is_point word

-- what stands after the point
abbrev pub decimals_of : List ℕ → List ℕ
decimals_of word = after_first is_point word

-- a cost: one digit or more, a point, and one digit or more
abbrev pub is_cost : List ℕ → Bool
is_cost word = is_digits (units_of word) && is_digits (decimals_of word)

-- the value of a cost in millionths, of any size, where it has six decimals
abbrev pub spelled_cost : List ℕ → ℕ
spelled_cost word = digits_value 10 (units_of word ++ decimals_of word)

-- a cost in its one spelling: six decimals, and no leading zero in the whole part but `0` itself
abbrev pub is_plain_cost : List ℕ → Bool
is_plain_cost word = is_cost word && is_plain_digits (units_of word) && length (decimals_of word) == 6

-- a point, and six digits of a number below a million, with zeros in front
abbrev pub decimals_text : ℕ → List ℕ
decimals_text n = 46 ∷ map (λ place. 48 + n / place % 10) (100000 ∷ 10000 ∷ 1000 ∷ 100 ∷ 10 ∷ 1 ∷ [])

-- millionths of any size in their one spelling: the whole units, a point, and six decimals
unfoldable pub micro_text : ℕ → List ℕ
micro_text n = digits_text (n / 1000000) ++ decimals_text (n % 1000000)

-- What a word means as an amount or as a count. An amount is a number of millionths of a unit.
use Rattle.std.specs.Prelude.{◌==◌, ℕ, Bool, not, List, ◌++◌, length, take, drop, codes, Result, Ok, Err, nat_le, if◌then◌else◌}
use Rattle.std.specs.List.{list_all}
use Rattle.std.specs.Str.Parse.{digits_value, without_leading_plus}
use Rattle.location_terms.specs.declared.limits.TheConstants.{MAX_AMOUNT}
use Rattle.number_words.specs.Cost.{units_of, decimals_of}
use Rattle.number_words.specs.Number.{is_digits}
use Rattle.fixed_cost.specs.declared.amount.AmountFault.{AmountFault}
use Rattle.fixed_cost.specs.declared.amount.AmountFault.TheVariants.{NotANumber, TooFine, TooBig}

-- what stands before the first point of a word, without a leading plus sign
abbrev pub whole_part : List ℕ → List ℕ
whole_part word = units_of (without_leading_plus word)

-- what stands after the first point
abbrev pub decimals : List ℕ → List ℕ
decimals word = decimals_of (without_leading_plus word)

-- at least one digit before or after the point, and nothing but digits
abbrev pub is_numeral : List ℕ → Bool
is_numeral word = is_digits (whole_part word ++ decimals word)

-- whether each decimal after the sixth is the digit 0
abbrev pub is_in_millionths : List ℕ → Bool
is_in_millionths word = list_all (λ b. b == 48) (drop 6 (decimals word))

-- the first six decimals, with zeros for those that are not there
abbrev pub six_places : List ℕ → List ℕ
six_places ds = take 6 ds ++ drop (length ds) (codes "000000")

-- the value of the digits of a word and of its six places, which is its millionths
abbrev pub millionths : List ℕ → ℕ
millionths word = digits_value 10 (whole_part word ++ six_places (decimals word))

-- the amount that a word spells, or what is wrong with the word
unfoldable pub amount_of : List ℕ → Result ℕ AmountFault
amount_of word =
    if not (is_numeral word) then Err NotANumber
    else (if not (is_in_millionths word) then Err TooFine
    else (if nat_le (millionths word) MAX_AMOUNT then Ok (millionths word)
    else Err TooBig))

-- the count that a word spells: digits alone, below 2 ^ 32
unfoldable pub count_of : List ℕ → Result ℕ AmountFault
count_of word =
    if not (is_digits word) then Err NotANumber
    else (if nat_le (digits_value 10 word) 4294967295 then Ok (digits_value 10 word)
    else Err TooBig)

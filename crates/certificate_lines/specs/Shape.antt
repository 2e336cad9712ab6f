-- The shape of a line: fixed words and numbers, one behind another. A line of a shape has one text for its numbers.
use Rattle.std.specs.Prelude.{◌==◌, ℕ, Bool, true, ◌&&◌, ◌%◌, List, [], ◌∷◌, length, map, Option, None, Some, option_map, ℤ, bytes_eq, if◌then◌else◌}
use Rattle.std.specs.List.{list_all}
use Rattle.number_words.specs.Line.{spaced}
use Rattle.number_words.specs.Number.{is_number, number_of, number_text}

-- what stands in a line from a place on: numbers to the end, whose count passes the test; or a word, or a number, and then what stands behind it
pub data Shape : Type 0 where
  Numbers : (ℕ → Bool) → Shape
  Word : List ℕ → Shape → Shape
  Number : Shape → Shape

-- a word and then numbers
abbrev pub row : List ℕ → (ℕ → Bool) → Shape
row word many = Word word (Numbers many)

-- tests of how many numbers there are: any count, this count alone, an even count
abbrev pub any_count : ℕ → Bool
any_count n = true

abbrev pub just : ℕ → ℕ → Bool
just count n = n == count

abbrev pub even_count : ℕ → Bool
even_count n = n % 2 == 0

-- the words of a line of this shape with these numbers, each in its one spelling. The numbers are as many as the shape has
abbrev pub words_of_shape : Shape → List ℤ → List (List ℕ)
words_of_shape (Numbers many) zs = map number_text zs
words_of_shape (Word word shape) zs = word ∷ words_of_shape shape zs
words_of_shape (Number shape) [] = []
words_of_shape (Number shape) (z ∷ zs) = number_text z ∷ words_of_shape shape zs

-- the line
abbrev pub text_of_shape : Shape → List ℤ → List ℕ
text_of_shape shape zs = spaced (words_of_shape shape zs)

-- the numbers among words that are of this shape, in any spelling of the numbers; none where the words are not of the shape
abbrev pub numbers_in : Shape → List (List ℕ) → Option (List ℤ)
numbers_in (Numbers many) ws = if list_all is_number ws && many (length ws) then Some (map number_of ws) else None
numbers_in (Word word shape) [] = None
numbers_in (Word word shape) (w ∷ ws) = if bytes_eq w word then numbers_in shape ws else None
numbers_in (Number shape) [] = None
numbers_in (Number shape) (w ∷ ws) = if is_number w then option_map (λ zs. number_of w ∷ zs) (numbers_in shape ws) else None

-- For private functions alone: no public contract cites this page.
-- What the readers of lines say to each other.
use Rattle.std.specs.Prelude.{◌==◌, ℕ, ◌%◌, Bool, true, false, ◌&&◌, List, [], ◌∷◌, length, map, drop, Option, None, Some, option_map, Err, ℤ, int_lt, bytes_eq, if◌then◌else◌}
use Rattle.std.specs.List.{list_all}
use Rattle.number_words.specs.Number.{is_number, is_plain_number, number_of}
use Rattle.certificate_lines.specs.declared.kind.CertKind.{CertKind}
use Rattle.certificate_lines.specs.declared.row.Count.{Count}
use Rattle.certificate_lines.specs.declared.row.Walk.{Walk}
use Rattle.certificate_lines.specs.declared.row.Count.TheVariants.{Any, Just, Even, Odd}
use Rattle.certificate_lines.specs.Shape.{Shape, Numbers, Word, Number, any_count, just, even_count}
use Rattle.certificate_lines.specs.Lines.{Said}

-- the fault that is found, else what follows
abbrev pub unless_found : Option CertKind → Said → Said
unless_found None rest = rest
unless_found (Some kind) rest = Err kind

-- which numbers of numbers are allowed
abbrev pub allows : Count → ℕ → Bool
allows Any = any_count
allows (Just count) = just count
allows Even = even_count
allows Odd = λ n. n % 2 == 1

-- the same behind one more number, where one more is allowed
abbrev pub still_allows : Option Count → ℕ → Bool
still_allows None n = false
still_allows (Some count) n = allows count n

-- the numbers of words
abbrev pub numbers : List (List ℕ) → List ℤ
numbers ws = map number_of ws

-- the numbers at their places in a shape
abbrev pub numbers_at : Shape → List (List ℕ) → List ℤ
numbers_at (Numbers many) ws = numbers ws
numbers_at (Word word shape) ws = numbers_at shape (drop 1 ws)
numbers_at (Number shape) [] = []
numbers_at (Number shape) (w ∷ ws) = number_of w ∷ numbers_at shape ws

-- whether each number of words that are of this shape is in its one spelling
abbrev pub plain_in : Shape → List (List ℕ) → Option Bool
plain_in (Numbers many) ws = if list_all is_number ws && many (length ws) then Some (list_all is_plain_number ws) else None
plain_in (Word word shape) [] = None
plain_in (Word word shape) (w ∷ ws) = if bytes_eq w word then plain_in shape ws else None
plain_in (Number shape) [] = None
plain_in (Number shape) (w ∷ ws) = if is_number w then option_map (λ plain. is_plain_number w && plain) (plain_in shape ws) else None

-- the same of all numbers that a walk goes past, where these words are ahead of it
abbrev pub plain_ahead : Option Walk → List (List ℕ) → Option Bool
plain_ahead None ws = None
plain_ahead (Some walk) ws = option_map (λ plain. walk.plain && plain) (plain_in (Numbers (allows walk.left)) ws)

-- whether a number is greater than the one before it, if there is one
abbrev pub is_above : Option (List ℕ) → List ℕ → Bool
is_above None w = true
is_above (Some last) w = int_lt (number_of last) (number_of w)

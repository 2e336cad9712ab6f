-- The words of a line, and the line in its one plain form.
use Rattle.std.specs.Prelude.{◌==◌, ℕ, Bool, ◌&&◌, ◌||◌, not, List, length, filter, bytes_eq}
use Rattle.std.specs.List.{slice_split, join_with_byte, list_all}

-- a line feed
abbrev pub is_line_feed : ℕ → Bool
is_line_feed b = b == 10

-- a byte that is part of no word: space, tab, carriage return or line feed
abbrev pub is_blank : ℕ → Bool
is_blank b = b == 32 || b == 9 || b == 13 || b == 10

-- the words of a line, its longest runs without a blank: what stands between its blanks, where that is not empty
abbrev pub words_of_line : List ℕ → List (List ℕ)
words_of_line line = filter (λ run. not (length run == 0)) (slice_split is_blank line)

-- a word: not empty, and without a blank in it
abbrev pub is_word : List ℕ → Bool
is_word word = not (length word == 0) && list_all (λ b. not (is_blank b)) word

-- words parted by one space
abbrev pub spaced : List (List ℕ) → List ℕ
spaced words = join_with_byte 32 words

-- whether a line is its words parted by single spaces, and nothing else
abbrev pub is_spaced : List ℕ → Bool
is_spaced line = bytes_eq line (spaced (words_of_line line))

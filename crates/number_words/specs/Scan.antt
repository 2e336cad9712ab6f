-- What a scanner has left of a text.
use Rattle.std.specs.Prelude.{ℕ, ◌+◌, ◌≤◌, List, [], ◌∷◌, ◌++◌, map}
use Rattle.std.specs.List.{slice_split}
use Rattle.number_words.specs.Line.{is_line_feed, words_of_line}
use Rattle.number_words.specs.Words.{PlacedWord, words_in_line, words_in_lines}
use Rattle.number_words.specs.declared.limits.TheConstants.{MAX_TEXT_BYTES}
use Rattle.number_words.specs.declared.scan.Words.TheInside.{Inside}

-- the words of lines, of which the first goes on at a line and a place
abbrev pub words_after : ℕ → ℕ → List (List ℕ) → List PlacedWord
words_after line place [] = []
words_after line place (l ∷ ls) = words_in_line line place (words_of_line l) ++ words_in_lines (line + 1) (map words_of_line ls)

-- the words of a text that goes on at a line and a place
unfoldable pub words_left : ℕ → ℕ → List ℕ → List PlacedWord
words_left line place bytes = words_after line place (slice_split is_line_feed bytes)

-- the words that are left behind the scanner's place
unfoldable pub words_behind : Inside → List PlacedWord
words_behind s = words_left s.line s.place s.rest.now

-- numbers of lines and places have room for the bytes that are left
pub record HasRoom (line place len : ℕ) : Type 0 where
  pub line_counts : 1 ≤ line
  pub place_counts : 1 ≤ place
  pub line_fits : line + len ≤ MAX_TEXT_BYTES + 1
  pub place_fits : place + len ≤ MAX_TEXT_BYTES + 1

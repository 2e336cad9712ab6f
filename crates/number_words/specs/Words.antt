-- The words of a text with their places.
use Rattle.std.specs.Prelude.{ℕ, ◌+◌, List, [], ◌∷◌, ◌++◌, map, flat_map}
use Rattle.std.specs.List.{slice_split}
use Rattle.number_words.specs.Line.{is_line_feed, words_of_line, spaced}
use Rattle.number_words.specs.declared.word.Word.{Word}

-- a word, the number of its line, and its place among the words of that line, each counted from 1
pub record PlacedWord : Type 0 where
  pub text : List ℕ
  pub line : ℕ
  pub place : ℕ

-- a word of the program, without where it lies in memory
abbrev pub placed : Word → PlacedWord
placed w = record { text = w.text.now; line = w.line; place = w.place }

-- the words of a line, numbered from a place
abbrev pub words_in_line : ℕ → ℕ → List (List ℕ) → List PlacedWord
words_in_line line place [] = []
words_in_line line place (w ∷ ws) = record { text = w; line = line; place = place } ∷ words_in_line line (place + 1) ws

-- the words of lines, which are numbered from a line
abbrev pub words_in_lines : ℕ → List (List (List ℕ)) → List PlacedWord
words_in_lines line [] = []
words_in_lines line (ws ∷ lines) = words_in_line line 1 ws ++ words_in_lines (line + 1) lines

-- the words of a text: those of what stands between its line feeds
unfoldable pub words_of : List ℕ → List PlacedWord
words_of bytes = words_in_lines 1 (map words_of_line (slice_split is_line_feed bytes))

-- a text of lines of words: the words of each line parted by single spaces, and a line feed behind them
abbrev pub spaced_lines : List (List (List ℕ)) → List ℕ
spaced_lines lines = flat_map (λ ws. spaced ws ++ 10 ∷ []) lines

-- the place behind the last word: its line and one past its place, or the first of all where there is no word
abbrev pub end_of : List PlacedWord → ℕ × ℕ
end_of [] = (1, 1)
end_of (w ∷ []) = (w.line, w.place + 1)
end_of (_ ∷ v ∷ ws) = end_of (v ∷ ws)

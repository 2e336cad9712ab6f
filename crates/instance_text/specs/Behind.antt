-- For private functions alone: no public contract cites this page.
-- Words of a line that stand behind others.
use Rattle.std.specs.Prelude.{ℕ, List, [], ◌∷◌, ◌++◌, flat_map}
use Rattle.number_words.specs.Line.{spaced}

-- each word with a space before it
abbrev pub behind : List (List ℕ) → List ℕ
behind words = flat_map (λ w. 32 ∷ w) words

-- a line of words
abbrev pub line : List (List ℕ) → List ℕ
line words = spaced words ++ 10 ∷ []

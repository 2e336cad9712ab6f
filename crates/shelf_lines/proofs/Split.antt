-- The lines of a text, one after another.
use Rattle.std.proofs.Common.{◌≡◌, ℕ, ◌<◌, List, [], ◌∷◌, ◌++◌, length, refl, arith}
use Rattle.std.specs.List.{slice_split}
use Rattle.std.proofs.lemmas.List.Splits.{slice_split_at, slice_split_none, length-slice_split}
use Rattle.shelf_lines.specs.Line.{is_line_feed, IsLine}

-- the lines of a text that begins with a line are that line and the lines of the rest
pub lines_and_rest : (line rest : List ℕ) → IsLine line → slice_split is_line_feed (line ++ 10 ∷ rest) ≡ line ∷ slice_split is_line_feed rest
lines_and_rest line rest is_line = slice_split_at is_line_feed line 10 rest is_line refl

-- bytes without a line feed are one line
pub one_line : (xs : List ℕ) → IsLine xs → slice_split is_line_feed xs ≡ xs ∷ []
one_line xs is_line = slice_split_none is_line_feed xs is_line

-- there is a piece of any bytes
pub some_piece : (bytes : List ℕ) → 0 < length (slice_split is_line_feed bytes)
some_piece bytes = omega (arith, length-slice_split is_line_feed bytes)

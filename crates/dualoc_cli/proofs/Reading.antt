-- The lines of an input that were read so far, and what its bytes come to where no more follow.
use Rattle.std.proofs.Common.{◌≡◌, ◌⊎◌, ℕ, suc, ◌+◌, ◌-◌, ◌<◌, ◌≤◌, Bool, true, false, cond, not, ◌&&◌, ◌||◌, nat_lt, nat_le, List, [], ◌∷◌, ◌++◌, length, take, refl, sym, ap, ◌∙◌, arith, inl, inr}
use Rattle.std.specs.Prelude.{None, Some}
use Rattle.std.specs.List.{slice_split, onto_first, list_any, before_first, position_or_len}
use Rattle.std.proofs.lemmas.Bool.{lt-ltb, ltb-true, le-leb, lt-leb, false_from_ne_true}
use Rattle.std.proofs.lemmas.List.Elements.{All-head, All-tail}
use Rattle.std.proofs.lemmas.List.Splits.{slice_split-cons_no}
use Rattle.shelf_lines.specs.Line.{is_line_feed, IsLine}
use Rattle.shelf_lines.proofs.Split.{lines_and_rest, some_piece}
use Rattle.session_lines.specs.Lines.{quits}
use Rattle.whatif_session.specs.Input.{InputEnd, LongLine, LongInput, InputLines, ended_by, line_before, passed_limit, unless_passed, last_line, lines_within}
use Rattle.dualoc_cli.specs.Talk.{with_lines, AreRead}

-- Limits.

not_below : (a b : ℕ) → a ≤ b → nat_lt b a ≡ false
not_below a b h = false_from_ne_true (nat_lt b a) (λ e. let above : b < a = ltb-true b a e in omega arith)

pub none_passed : (most more len whole : ℕ) → len ≤ most → whole ≤ more → passed_limit most more len whole ≡ None
none_passed most more len whole short within =
    ap (λ b. cond (b && nat_le most more) (Some LongLine) (cond (nat_lt more whole) (Some LongInput) None)) (not_below len most short)
    ∙ ap (λ b. cond b (Some LongInput) None) (not_below whole more within)

pub line_passed : (most more len whole : ℕ) → most < len → most ≤ more → passed_limit most more len whole ≡ Some LongLine
line_passed most more len whole long before =
    ap (λ b. cond (b && nat_le most more) (Some LongLine) (cond (nat_lt more whole) (Some LongInput) None)) (lt-ltb most len long)
    ∙ ap (λ b. cond b (Some LongLine) (cond (nat_lt more whole) (Some LongInput) None)) (le-leb most more before)

and_false : (b : Bool) → (b && false) ≡ false
and_false true = refl
and_false false = refl

pub input_passed : (most more len whole : ℕ) → (len ≤ most) ⊎ (more < most) → more < whole → passed_limit most more len whole ≡ Some LongInput
input_passed most more len whole (inl short) past =
    ap (λ b. cond (b && nat_le most more) (Some LongLine) (cond (nat_lt more whole) (Some LongInput) None)) (not_below len most short)
    ∙ ap (λ b. cond b (Some LongInput) None) (lt-ltb more whole past)
input_passed most more len whole (inr few) past =
    ap (λ b. cond (nat_lt most len && b) (Some LongLine) (cond (nat_lt more whole) (Some LongInput) None)) (lt-leb most more few)
    ∙ ap (λ b. cond b (Some LongLine) (cond (nat_lt more whole) (Some LongInput) None)) (and_false (nat_lt most len))
    ∙ ap (λ b. cond b (Some LongInput) None) (lt-ltb more whole past)

-- Pieces.

-- the first piece is a line, where others follow
pub takes : (most more : ℕ) (line : List ℕ) (pieces : List (List ℕ)) → 0 < length pieces → passed_limit most more (length line) (length line + 1) ≡ None
    → lines_within most more (line ∷ pieces) ≡ line_before line (lines_within most (more - (length line + 1)) pieces)
takes most more line [] some none = absurd (omega arith)
takes most more line (piece ∷ pieces) some none = ap (λ passed. unless_passed passed (line_before line (lines_within most (more - (length line + 1)) (piece ∷ pieces)))) none

-- the first piece passes a limit
pub stops : (most more : ℕ) (piece : List ℕ) (pieces : List (List ℕ)) (ends : InputEnd) → passed_limit most more (length piece) (length piece) ≡ Some ends → passed_limit most more (length piece) (length piece + 1) ≡ Some ends
    → lines_within most more (piece ∷ pieces) ≡ ended_by ends
stops most more piece [] ends last fed = ap (λ passed. unless_passed passed (last_line piece)) last
stops most more piece (next ∷ pieces) ends last fed = ap (λ passed. unless_passed passed (line_before piece (lines_within most (more - (length piece + 1)) (next ∷ pieces)))) fed

-- it does so with its line feed
pub stops_fed : (most more : ℕ) (piece : List ℕ) (pieces : List (List ℕ)) (ends : InputEnd) → 0 < length pieces → passed_limit most more (length piece) (length piece + 1) ≡ Some ends
    → lines_within most more (piece ∷ pieces) ≡ ended_by ends
stops_fed most more piece [] ends some fed = absurd (omega arith)
stops_fed most more piece (next ∷ pieces) ends some fed = ap (λ passed. unless_passed passed (line_before piece (lines_within most (more - (length piece + 1)) (next ∷ pieces)))) fed

-- the first of these pieces begins so
pub record BeginWith (front : List ℕ) (pieces : List (List ℕ)) : Type 0 where
  pub more : List ℕ
  pub others : List (List ℕ)
  pub pieces_are : pieces ≡ (front ++ more) ∷ others

begin_some : (pieces : List (List ℕ)) → 0 < length pieces → BeginWith [] pieces
begin_some [] some = absurd (omega arith)
begin_some (piece ∷ pieces) some = record { more = piece; others = pieces; pieces_are = refl }

pub begin : (front behind : List ℕ) → IsLine front → BeginWith front (slice_split is_line_feed (front ++ behind))
begin [] behind is_line = begin_some (slice_split is_line_feed behind) (some_piece behind)
begin (b ∷ front) behind is_line =
    let rest : BeginWith front (slice_split is_line_feed (front ++ behind)) = begin front behind (All-tail (λ x. is_line_feed x ≡ false) b front is_line) in
    record {
      more = rest.more;
      others = rest.others;
      pieces_are = slice_split-cons_no is_line_feed b (front ++ behind) (All-head (λ x. is_line_feed x ≡ false) b front is_line) ∙ ap (onto_first b) rest.pieces_are;
    }

-- Lines in front.

abbrev pub in_front : List (List ℕ) → InputLines → InputLines
in_front [] rest = rest
in_front (line ∷ lines) rest = line_before line (in_front lines rest)

pub ends_in_front : (lines : List (List ℕ)) (rest : InputLines) → (in_front lines rest).ends ≡ rest.ends
ends_in_front [] rest = refl
ends_in_front (line ∷ lines) rest = ends_in_front lines rest

-- lines that are read stand in front of those of what is left
pub read_lines : (most more left : ℕ) (lines : List (List ℕ)) (rest : List ℕ) → AreRead most more lines left
    → lines_within most more (slice_split is_line_feed (with_lines lines rest)) ≡ in_front lines (lines_within most left (slice_split is_line_feed rest))
read_lines most more left [] rest read = ap (λ m. lines_within most m (slice_split is_line_feed rest)) (sym read)
read_lines most more left (line ∷ lines) rest read =
    ap (lines_within most more) (lines_and_rest line (with_lines lines rest) read.0)
    ∙ takes most more line (slice_split is_line_feed (with_lines lines rest)) (some_piece (with_lines lines rest)) (none_passed most more (length line) (length line + 1) read.1 read.3)
    ∙ ap (line_before line) (read_lines most (more - (length line + 1)) left lines rest read.4)

-- Before the first line that ends a session.

take_more : {A : Type 0} (n : ℕ) (x : A) (xs : List A) → take (1 + n) (x ∷ xs) ≡ x ∷ take n xs
take_more n x xs = let next : 1 + n ≡ suc n = omega arith in ap (λ k. take k (x ∷ xs)) next

pub before_more : (line : List ℕ) (lines : List (List ℕ)) → quits line ≡ false → before_first quits (line ∷ lines) ≡ line ∷ before_first quits lines
before_more line lines goes_on =
    ap (λ b. take (cond (not b) (1 + position_or_len quits lines) 0) (line ∷ lines)) goes_on
    ∙ take_more (position_or_len quits lines) line lines

pub before_none : (line : List ℕ) (lines : List (List ℕ)) → quits line ≡ true → before_first quits (line ∷ lines) ≡ []
before_none line lines ends = ap (λ b. take (cond (not b) (1 + position_or_len quits lines) 0) (line ∷ lines)) ends

pub any_more : (line : List ℕ) (lines : List (List ℕ)) (b : Bool) → quits line ≡ b → list_any quits (line ∷ lines) ≡ (b || list_any quits lines)
any_more line lines b is = ap (λ c. c || list_any quits lines) is

pub due_in_front : (most more left : ℕ) (lines : List (List ℕ)) (rest : InputLines) → AreRead most more lines left → before_first quits (in_front lines rest).lines ≡ lines ++ before_first quits rest.lines
due_in_front most more left [] rest read = refl
due_in_front most more left (line ∷ lines) rest read =
    before_more line (in_front lines rest).lines read.2 ∙ ap (λ ls. line ∷ ls) (due_in_front most (more - (length line + 1)) left lines rest read.4)

pub quit_in_front : (most more left : ℕ) (lines : List (List ℕ)) (rest : InputLines) → AreRead most more lines left → list_any quits (in_front lines rest).lines ≡ list_any quits rest.lines
quit_in_front most more left [] rest read = refl
quit_in_front most more left (line ∷ lines) rest read =
    any_more line (in_front lines rest).lines false read.2 ∙ quit_in_front most (more - (length line + 1)) left lines rest read.4

pub none_quits : (most more left : ℕ) (lines : List (List ℕ)) → AreRead most more lines left → list_any quits lines ≡ false
none_quits most more left [] read = refl
none_quits most more left (line ∷ lines) read = any_more line lines false read.2 ∙ none_quits most (more - (length line + 1)) left lines read.4

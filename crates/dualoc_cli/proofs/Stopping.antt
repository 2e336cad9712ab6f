-- How an input that was read so far may end, and why a session steps through no more of its lines.
use Rattle.std.proofs.Common.{◌≡◌, ℕ, ◌+◌, ◌-◌, ◌<◌, ◌≤◌, Bool, true, false, List, [], ◌∷◌, ◌++◌, length, take, drop, refl, sym, ap, ◌∙◌, subst, arith, append_assoc, append-nil, length-append, inl, inr}
use Rattle.std.specs.Prelude.{Some, MatchBool, slice_get, IfSome}
use Rattle.std.specs.List.{slice_split, list_any, before_first}
use Rattle.std.proofs.lemmas.List.{take_all, drop_all, take-append-le, drop-append-le}
use Rattle.std.proofs.lemmas.List.Elements.{All-nil}
use Rattle.shelf_port.specs.Files.{Rose}
use Rattle.shelf_port.specs.Ports.{SourceState}
use Rattle.shelf_lines.specs.Line.{is_line_feed, IsLine}
use Rattle.shelf_lines.specs.Input.{HasLongLine}
use Rattle.shelf_lines.proofs.Split.{lines_and_rest, one_line, some_piece}
use Rattle.session_lines.specs.Lines.{quits}
use Rattle.whatif_session.specs.Input.{InputLimits, ReadOut, LongLine, LongInput, InputLines, ended_by, line_before, unless_passed, last_line, lines_within, input_lines, due_lines, is_ended_by_quit, whole_lines}
use Rattle.whatif_session.specs.Run.{Stop, AtEnd, AtLongLine, AtLongInput, AtFailedRead, stop_at, IsDueStop, AreFirst, StopsBehind}
use Rattle.dualoc_cli.specs.Talk.{with_lines, AreRead}
use Rattle.dualoc_cli.proofs.Reading.{none_passed, line_passed, input_passed, takes, stops, stops_fed, BeginWith, begin, in_front, ends_in_front, read_lines, before_more, before_none, any_more, due_in_front, quit_in_front, none_quits}

take_front : {A : Type 0} (xs ys : List A) → take (length xs) (xs ++ ys) ≡ xs
take_front xs ys = take-append-le (length xs) xs ys (omega arith) ∙ take_all (length xs) xs (omega arith)

drop_front : {A : Type 0} (xs ys : List A) → drop (length xs) (xs ++ ys) ≡ ys
drop_front xs ys = drop-append-le (length xs) xs ys (omega arith) ∙ ap (λ l. l ++ ys) (drop_all (length xs) xs (omega arith))

are_first : (due xs ys : List (List ℕ)) → due ≡ xs ++ ys → (k : ℕ) × (k ≤ length due) × (xs ≡ take k due)
are_first due xs ys is = (length xs, omega (arith, ap length is, length-append xs ys), sym (ap (take (length xs)) is ∙ take_front xs ys))

get_front : (xs ys : List (List ℕ)) (y : List ℕ) → slice_get (xs ++ y ∷ ys) (length xs) ≡ Some y
get_front [] ys y = refl
get_front (x ∷ xs) ys y = get_front xs ys y

with_lines_append : (lines : List (List ℕ)) (line rest : List ℕ) → with_lines lines (line ++ rest) ≡ with_lines lines line ++ rest
with_lines_append [] line rest = refl
with_lines_append (l ∷ lines) line rest = ap (λ t. l ++ 10 ∷ t) (with_lines_append lines line rest) ∙ sym (append_assoc l (10 ∷ with_lines lines line) rest)

pub with_lines_more : (lines : List (List ℕ)) (line rest : List ℕ) → with_lines (lines ++ line ∷ []) rest ≡ with_lines lines (line ++ 10 ∷ rest)
with_lines_more [] line rest = refl
with_lines_more (l ∷ lines) line rest = ap (λ t. l ++ 10 ∷ t) (with_lines_more lines line rest)

-- one more line is read
pub read_more : (most more left : ℕ) (lines : List (List ℕ)) (line : List ℕ) → AreRead most more lines left → IsLine line → length line ≤ most → quits line ≡ false → length line + 1 ≤ left
    → AreRead most more (lines ++ line ∷ []) (left - (length line + 1))
read_more most more left [] line read is_line short goes_on within = (is_line, short, goes_on, subst (λ n. length line + 1 ≤ n) read within, ap (λ n. n - (length line + 1)) read)
read_more most more left (l ∷ lines) line read is_line short goes_on within =
    (read.0, read.1, read.2, read.3, read_more most (more - (length l + 1)) left lines line read.4 is_line short goes_on within)

-- the pieces of lines and what is left
split_lines : (most more left : ℕ) (lines : List (List ℕ)) (line : List ℕ) → AreRead most more lines left → IsLine line → slice_split is_line_feed (with_lines lines line) ≡ lines ++ line ∷ []
split_lines most more left [] line read is_line = one_line line is_line
split_lines most more left (l ∷ lines) line read is_line = lines_and_rest l (with_lines lines line) read.0 ∙ ap (λ ls. l ∷ ls) (split_lines most (more - (length l + 1)) left lines line read.4 is_line)

matched_true : (P Q : Type 0) (b : Bool) → b ≡ true → P → MatchBool b P Q
matched_true P Q b is p = subst (λ c. MatchBool c P Q) (sym is) p

matched_false : (P Q : Type 0) (b : Bool) → b ≡ false → Q → MatchBool b P Q
matched_false P Q b is q = subst (λ c. MatchBool c P Q) (sym is) q

last_ends : (line : List ℕ) → (last_line line).ends ≡ ReadOut
last_ends [] = refl
last_ends (b ∷ line) = refl

last_there : (line : List ℕ) → 0 < length line → last_line line ≡ line_before line (ended_by ReadOut)
last_there [] some = absurd (omega arith)
last_there (b ∷ line) some = refl

module _ (limits : InputLimits) (lines : List (List ℕ)) (left : ℕ) (read : AreRead limits.line limits.input lines left) where
  -- what is left comes to these lines
  abbrev Comes : List ℕ → InputLines → Type 0
  Comes rest to = lines_within limits.line left (slice_split is_line_feed rest) ≡ to

  whole : (rest : List ℕ) (to : InputLines) → Comes rest to → input_lines limits (with_lines lines rest) ≡ in_front lines to
  whole rest to comes = read_lines limits.line limits.input left lines rest read ∙ ap (in_front lines) comes

  due : (rest : List ℕ) (to : InputLines) → Comes rest to → due_lines limits (with_lines lines rest) ≡ lines ++ before_first quits to.lines
  due rest to comes = ap (λ (l : InputLines). before_first quits l.lines) (whole rest to comes) ∙ due_in_front limits.line limits.input left lines to read

  quit : (rest : List ℕ) (to : InputLines) → Comes rest to → is_ended_by_quit limits (with_lines lines rest) ≡ list_any quits to.lines
  quit rest to comes = ap (λ (l : InputLines). list_any quits l.lines) (whole rest to comes) ∙ quit_in_front limits.line limits.input left lines to read

  ends : (rest : List ℕ) (to : InputLines) → Comes rest to → (input_lines limits (with_lines lines rest)).ends ≡ to.ends
  ends rest to comes = ap (λ (l : InputLines). l.ends) (whole rest to comes) ∙ ends_in_front lines to

  none_due : (rest : List ℕ) (to : InputLines) → Comes rest to → before_first quits to.lines ≡ [] → lines ≡ due_lines limits (with_lines lines rest)
  none_due rest to comes none = sym (due rest to comes ∙ ap (λ ls. lines ++ ls) none ∙ append-nil lines)

  due_stop : (rest : List ℕ) (to : InputLines) (stop : Stop) → Comes rest to → list_any quits to.lines ≡ false → stop_at to.ends ≡ stop → IsDueStop limits (with_lines lines rest) stop
  due_stop rest to stop comes none is = matched_false (stop ≡ AtEnd) (stop ≡ stop_at (input_lines limits (with_lines lines rest)).ends) (is_ended_by_quit limits (with_lines lines rest)) (quit rest to comes ∙ none) (sym is ∙ ap stop_at (sym (ends rest to comes)))

  due_quit : (rest : List ℕ) (to : InputLines) → Comes rest to → list_any quits to.lines ≡ true → IsDueStop limits (with_lines lines rest) AtEnd
  due_quit rest to comes there = matched_true (◌≡◌ {A = Stop} AtEnd AtEnd) (AtEnd ≡ stop_at (input_lines limits (with_lines lines rest)).ends) (is_ended_by_quit limits (with_lines lines rest)) (quit rest to comes ∙ there) refl

  -- What is left.

  abbrev others : List ℕ → List ℕ → List (List ℕ)
  others line rest = (lines_within limits.line (left - (length line + 1)) (slice_split is_line_feed rest)).lines

  comes_line : (line rest : List ℕ) → IsLine line → length line ≤ limits.line → length line + 1 ≤ left
      → Comes (line ++ 10 ∷ rest) (line_before line (lines_within limits.line (left - (length line + 1)) (slice_split is_line_feed rest)))
  comes_line line rest is_line short within =
      ap (lines_within limits.line left) (lines_and_rest line rest is_line)
      ∙ takes limits.line left line (slice_split is_line_feed rest) (some_piece rest) (none_passed limits.line left (length line) (length line + 1) short within)

  comes_last : (line : List ℕ) → IsLine line → length line ≤ limits.line → length line ≤ left → Comes line (last_line line)
  comes_last line is_line short within =
      ap (lines_within limits.line left) (one_line line is_line)
      ∙ ap (λ passed. unless_passed passed (last_line line)) (none_passed limits.line left (length line) (length line) short within)

  comes_long_line : (rest : List ℕ) → HasLongLine limits.line rest → limits.line ≤ left → Comes rest (ended_by LongLine)
  comes_long_line rest long before =
      let b : BeginWith long.front (slice_split is_line_feed (long.front ++ long.behind)) = begin long.front long.behind long.is_line in
      let far : limits.line < length (long.front ++ b.more) = omega (arith, length-append long.front b.more, long.long) in
      ap (λ bs. lines_within limits.line left (slice_split is_line_feed bs)) long.bytes_are
      ∙ ap (lines_within limits.line left) b.pieces_are
      ∙ stops limits.line left (long.front ++ b.more) b.others LongLine (line_passed limits.line left _ _ far before) (line_passed limits.line left _ _ far before)

  comes_long_fed : (line rest : List ℕ) → IsLine line → length line ≤ limits.line → left ≡ length line → Comes (line ++ 10 ∷ rest) (ended_by LongInput)
  comes_long_fed line rest is_line short all =
      ap (lines_within limits.line left) (lines_and_rest line rest is_line)
      ∙ stops_fed limits.line left line (slice_split is_line_feed rest) LongInput (some_piece rest) (input_passed limits.line left (length line) (length line + 1) (inl short) (omega (arith, all)))

  comes_long_input : (line rest : List ℕ) → IsLine line → length line ≤ limits.line → left + 1 ≡ length line → Comes (line ++ rest) (ended_by LongInput)
  comes_long_input line rest is_line short all =
      let b : BeginWith line (slice_split is_line_feed (line ++ rest)) = begin line rest is_line in
      let far : left < length (line ++ b.more) = omega (arith, length-append line b.more, all) in
      let few : left < limits.line = omega (arith, short, all) in
      ap (lines_within limits.line left) b.pieces_are
      ∙ stops limits.line left (line ++ b.more) b.others LongInput (input_passed limits.line left _ _ (inr few) far) (input_passed limits.line left _ _ (inr few) (omega (arith, far)))

  -- Why no more lines are stepped.
  module _ (before after : SourceState) where
    abbrev Stops : List (List ℕ) → List ℕ → Stop → Type 0
    Stops stepped rest stop = StopsBehind limits before after (with_lines lines rest) stepped stop

    pub at_quit : (line rest : List ℕ) → IsLine line → length line ≤ limits.line → length line + 1 ≤ left → quits line ≡ true → Stops lines (line ++ 10 ∷ rest) AtEnd
    at_quit line rest is_line short within ends_here =
        let comes = comes_line line rest is_line short within in
        (due_quit _ _ comes (any_more line (others line rest) true ends_here), none_due _ _ comes (before_none line (others line rest) ends_here))

    pub at_end : Stops lines [] AtEnd
    at_end =
        let comes : Comes [] (ended_by ReadOut) = comes_last [] (All-nil (λ b. is_line_feed b ≡ false)) (omega arith) (omega arith) in
        (due_stop [] (ended_by ReadOut) AtEnd comes refl refl, none_due [] (ended_by ReadOut) comes refl)

    pub at_last_quit : (line : List ℕ) → IsLine line → length line ≤ limits.line → length line ≤ left → 0 < length line → quits line ≡ true → Stops lines line AtEnd
    at_last_quit line is_line short within some ends_here =
        let comes : Comes line (line_before line (ended_by ReadOut)) = comes_last line is_line short within ∙ last_there line some in
        (due_quit _ _ comes (any_more line [] true ends_here), none_due _ _ comes (before_none line [] ends_here))

    pub at_last : (line : List ℕ) → IsLine line → length line ≤ limits.line → length line ≤ left → 0 < length line → quits line ≡ false → Stops (lines ++ line ∷ []) line AtEnd
    at_last line is_line short within some goes_on =
        let comes : Comes line (line_before line (ended_by ReadOut)) = comes_last line is_line short within ∙ last_there line some in
        (due_stop _ _ AtEnd comes (any_more line [] false goes_on) refl, sym (due _ _ comes ∙ ap (λ ls. lines ++ ls) (before_more line [] goes_on)))

    pub at_long_line : (rest : List ℕ) → HasLongLine limits.line rest → limits.line ≤ left → Stops lines rest AtLongLine
    at_long_line rest long within =
        let comes : Comes rest (ended_by LongLine) = comes_long_line rest long within in
        (due_stop rest (ended_by LongLine) AtLongLine comes refl refl, none_due rest (ended_by LongLine) comes refl)

    at_long_input : (rest : List ℕ) → Comes rest (ended_by LongInput) → Stops lines rest AtLongInput
    at_long_input rest comes = (due_stop rest (ended_by LongInput) AtLongInput comes refl refl, none_due rest (ended_by LongInput) comes refl)

    pub at_long_fed : (line rest : List ℕ) → IsLine line → length line ≤ limits.line → left ≡ length line → Stops lines (line ++ 10 ∷ rest) AtLongInput
    at_long_fed line rest is_line short all = at_long_input _ (comes_long_fed line rest is_line short all)

    pub at_long_rest : (line rest : List ℕ) → IsLine line → length line ≤ limits.line → left + 1 ≡ length line → Stops lines (line ++ rest) AtLongInput
    at_long_rest line rest is_line short all = at_long_input _ (comes_long_input line rest is_line short all)

    pub at_failed_read : (line rest : List ℕ) → IsLine line → length line ≤ limits.line → length line ≤ left → Rose before.faults after.faults → IfSome after.left (λ more. more ≡ rest)
        → Stops lines (line ++ rest) AtFailedRead
    at_failed_read line rest is_line short within rose left_is =
        let bytes : with_lines lines (line ++ rest) ≡ with_lines lines line ++ rest = with_lines_append lines line rest in
        let front : take (length (with_lines lines line)) (with_lines lines (line ++ rest)) ≡ with_lines lines line =
        ap (take (length (with_lines lines line))) bytes ∙ take_front (with_lines lines line) rest in
        let behind : drop (length (with_lines lines line)) (with_lines lines (line ++ rest)) ≡ rest =
        ap (drop (length (with_lines lines line))) bytes ∙ drop_front (with_lines lines line) rest in
        let pieces : slice_split is_line_feed (with_lines lines line) ≡ lines ++ line ∷ [] = split_lines limits.line limits.input left lines line read is_line in
        let whole_are : whole_lines (with_lines lines line) ≡ lines =
        ap (λ ps. take (length ps - 1) ps) pieces
        ∙ ap (λ n. take n (lines ++ line ∷ [])) (omega (arith, length-append lines (line ∷ [])))
        ∙ take_front lines (line ∷ []) in (
          rose,
          record {
            read = length (with_lines lines line);
            within = omega (arith, ap length bytes, length-append (with_lines lines line) rest);
            left_is = subst (λ l. IfSome after.left (λ more. more ≡ l)) (sym behind) left_is;
            unpassed = ap (λ bs. (input_lines limits bs).ends) front ∙ ends line (last_line line) (comes_last line is_line short within) ∙ last_ends line;
            lines_are = sym (ap whole_lines front ∙ whole_are);
            unquit = none_quits limits.line limits.input left lines read;
          },
        )

    pub first_lines : (rest : List ℕ) → AreFirst limits lines (with_lines lines rest)
    first_lines rest = are_first _ lines _ (due rest _ refl)

    pub first_with_last : (line : List ℕ) → IsLine line → length line ≤ limits.line → length line ≤ left → 0 < length line → quits line ≡ false → AreFirst limits (lines ++ line ∷ []) (with_lines lines line)
    first_with_last line is_line short within some goes_on =
        let comes : Comes line (line_before line (ended_by ReadOut)) = comes_last line is_line short within ∙ last_there line some in
        are_first _ (lines ++ line ∷ []) [] (due _ _ comes ∙ ap (λ ls. lines ++ ls) (before_more line [] goes_on) ∙ sym (append-nil (lines ++ line ∷ [])))

    pub next_line : (line rest : List ℕ) → IsLine line → length line ≤ limits.line → length line + 1 ≤ left → quits line ≡ false → slice_get (due_lines limits (with_lines lines (line ++ 10 ∷ rest))) (length lines) ≡ Some line
    next_line line rest is_line short within goes_on =
        let comes = comes_line line rest is_line short within in
        ap (λ ls. slice_get ls (length lines)) (due _ _ comes ∙ ap (λ ls. lines ++ ls) (before_more line (others line rest) goes_on)) ∙ get_front lines _ line

    pub next_last : (line : List ℕ) → IsLine line → length line ≤ limits.line → length line ≤ left → 0 < length line → quits line ≡ false → slice_get (due_lines limits (with_lines lines line)) (length lines) ≡ Some line
    next_last line is_line short within some goes_on =
        let comes : Comes line (line_before line (ended_by ReadOut)) = comes_last line is_line short within ∙ last_there line some in
        ap (λ ls. slice_get ls (length lines)) (due _ _ comes ∙ ap (λ ls. lines ++ ls) (before_more line [] goes_on)) ∙ get_front lines [] line

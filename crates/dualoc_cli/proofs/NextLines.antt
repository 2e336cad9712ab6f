-- What comes behind the lines of an input that were read: another one, or none.
use Rattle.std.proofs.Common.{◌≡◌, ℕ, ◌+◌, ◌-◌, ◌<◌, ◌≤◌, true, false, List, [], ◌∷◌, ◌++◌, length, refl, sym, ap, ◌∙◌, subst, inl, inr, arith}
use Rattle.std.specs.Prelude.{Option, None, Some, option_map, slice_get, IfSome}
use Rattle.shelf_port.specs.Files.{Rose}
use Rattle.shelf_port.specs.Streams.{with_front}
use Rattle.shelf_port.specs.Ports.{SourceState}
use Rattle.shelf_lines.specs.Line.{IsLine}
use Rattle.shelf_lines.specs.Rest.{unread}
use Rattle.shelf_lines.specs.Input.{InputState, HasLongLine, PassesLimit, IsCutShort}
use Rattle.session_lines.specs.Lines.{quits}
use Rattle.whatif_session.specs.Input.{InputLimits, due_lines}
use Rattle.whatif_session.specs.Run.{Stop, AtEnd, AtLongLine, AtLongInput, AtFailedRead, OutOfMemory, IsDueStop, AreFirst, StopsBehind, MayGive}
use Rattle.dualoc_cli.specs.Talk.{limits_of, with_lines, HasRead}
use Rattle.dualoc_cli.proofs.Stopping.{with_lines_more, read_more, at_quit, at_end, at_last_quit, at_last, at_long_line, at_long_fed, at_long_rest, at_failed_read, first_lines, first_with_last, next_line, next_last}
use Rattle.dualoc_cli.proofs.Gaining.{rose_since}
use Rattle.dualoc_cli.proofs.Giving.{gives, tail_of, tail_given, front_given, fed_given, last_given, long_given, told_more, front_nothing}

-- none comes behind these, for that cause
pub record NoneFollows (limits : InputLimits) (before after : SourceState) (lines : List (List ℕ)) (stop : Stop) : Type 0 where
  pub bytes : List ℕ
  pub given : MayGive before.left bytes
  pub stops : StopsBehind limits before after bytes lines stop

-- this one comes behind these
pub record Follows (limits : InputLimits) (before : SourceState) (lines : List (List ℕ)) (line : List ℕ) : Type 0 where
  pub bytes : List ℕ
  pub given : MayGive before.left bytes
  pub first : AreFirst limits lines bytes
  pub last : quits line ≡ true → IsDueStop limits bytes AtEnd × (lines ≡ due_lines limits bytes)
  pub next : quits line ≡ false → slice_get (due_lines limits bytes) (length lines) ≡ Some line
  pub first_with_it : quits line ≡ false → AreFirst limits (lines ++ line ∷ []) bytes

-- it ends a session
pub none_behind_quit : (limits : InputLimits) (before after : SourceState) (lines : List (List ℕ)) (line : List ℕ) → Follows limits before lines line → quits line ≡ true → NoneFollows limits before after lines AtEnd
none_behind_quit limits before after lines line follows quit = record { bytes = follows.bytes; given = follows.given; stops = follows.last quit }

pub told_first : (told : Option (List ℕ)) (ahead : List ℕ) → ahead ≡ [] → told ≡ option_map (with_lines []) (with_front ahead told)
told_first None ahead none = refl
told_first (Some rest) ahead none = ap (λ a. Some (a ++ rest)) (sym none)

-- a reader at the front of an input has read no line
pub none_read : (at : SourceState) (reader : InputState) → reader.lines.ahead ≡ [] → 0 < unread reader.lines → HasRead (limits_of reader) at at reader []
none_read at reader none some =
    record { left = unread reader.lines - 1; read = refl; unread_is = omega (arith, some); most = refl; told = told_first at.left reader.lines.ahead none; counts = omega arith }

module _ (limits : InputLimits) (before now : SourceState) (reader : InputState) (lines : List (List ℕ)) (so : HasRead limits before now reader lines) where
  abbrev so_far : Option (List ℕ)
  so_far = with_front reader.lines.ahead now.left

  none_follows : (after : SourceState) (stop : Stop) (tail : List ℕ) → MayGive so_far tail → StopsBehind limits before after (with_lines lines tail) lines stop → NoneFollows limits before after lines stop
  none_follows after stop tail may stops = record { bytes = with_lines lines tail; given = gives before.left so_far lines tail so.told may; stops = stops }

  pub none_in_memory : (after : SourceState) → NoneFollows limits before after lines OutOfMemory
  none_in_memory after = none_follows after OutOfMemory (tail_of so_far) (tail_given so_far) (first_lines limits lines so.left so.read before after (tail_of so_far))

  pub none_behind_long_line : (after : SourceState) → IfSome so_far (HasLongLine reader.most) → reader.most < unread reader.lines → NoneFollows limits before after lines AtLongLine
  none_behind_long_line after long first =
      let tail = long_given so_far limits.line (subst (λ n. IfSome so_far (HasLongLine n)) so.most long) in
      none_follows after AtLongLine tail.0 tail.1 (at_long_line limits lines so.left so.read before after tail.0 tail.2 (omega (arith, first, so.most, so.unread_is)))

  -- What the reader comes to.
  module _ (after : SourceState) (reader_new : InputState) (is_line : IsLine reader_new.lines.line) (short : length reader_new.lines.line ≤ reader.most) where
    abbrev line : List ℕ
    line = reader_new.lines.line

    fits : length line ≤ limits.line
    fits = subst (λ n. length line ≤ n) so.most short

    pub none_behind_long_input : PassesLimit reader.lines reader_new.lines now.left after.left → NoneFollows limits before after lines AtLongInput
    none_behind_long_input passes =
        elim passes.bytes [
          | inl cut ↦
              none_follows after AtLongInput (line ++ tail_of after.left) (front_given so_far after.left line (front_nothing so_far after.left line reader_new.lines.ahead passes.spent cut.1))
              (at_long_rest limits lines so.left so.read before after line (tail_of after.left) is_line fits (omega (arith, cut.0, so.unread_is)))
          | inr fed ↦
              none_follows after AtLongInput (line ++ 10 ∷ tail_of (with_front reader_new.lines.ahead after.left)) (fed_given so_far after.left line reader_new.lines.ahead fed.1)
              (at_long_fed limits lines so.left so.read before after line (tail_of (with_front reader_new.lines.ahead after.left)) is_line fits (omega (arith, fed.0, so.unread_is)))
        ]

    pub none_behind_failed_read : IsCutShort reader.lines reader_new.lines → so_far ≡ with_front (line ++ reader_new.lines.ahead) after.left → Rose now.faults after.faults → NoneFollows limits before after lines AtFailedRead
    none_behind_failed_read cut is rose =
        none_follows after AtFailedRead (line ++ tail_of after.left) (front_given so_far after.left line (front_nothing so_far after.left line reader_new.lines.ahead cut.spent is))
        (at_failed_read limits lines so.left so.read before after line (tail_of after.left) is_line fits (omega (arith, cut.within, so.unread_is))
        (rose_since before.faults now.faults after.faults so.counts rose) (left_is after.left))
      where
        left_is : (told : Option (List ℕ)) → IfSome told (λ more. more ≡ tail_of told)
        left_is None = tt
        left_is (Some more) = refl

    pub none_behind_end : IfSome so_far (λ rest. rest ≡ line) → line ≡ [] → NoneFollows limits before after lines AtEnd
    none_behind_end ends none = none_follows after AtEnd [] (subst (MayGive so_far) none (last_given so_far line ends)) (at_end limits lines so.left so.read before after)

    -- A line that a line feed ended.
    module _ (fed : so_far ≡ with_front (line ++ 10 ∷ reader_new.lines.ahead) after.left) (within : (0 < unread reader_new.lines) × (unread reader.lines ≡ length line + 1 + unread reader_new.lines)) where
      abbrev tail : List ℕ
      tail = tail_of (with_front reader_new.lines.ahead after.left)

      room : length line + 1 ≤ so.left
      room = omega (arith, within.0, within.1, so.unread_is)

      pub reads_on : quits line ≡ false → reader_new.most ≡ reader.most → now.faults ≤ after.faults → HasRead limits before after reader_new (lines ++ line ∷ [])
      reads_on on most counts =
          record {
            left = so.left - (length line + 1);
            read = read_more limits.line limits.input so.left lines line so.read is_line fits on room;
            unread_is = omega (arith, within.1, so.unread_is, room);
            most = most ∙ so.most;
            told = told_more before.left so_far after.left lines line reader_new.lines.ahead so.told fed;
            counts = omega (arith, so.counts, counts);
          }

      pub fed_follows : Follows limits before lines line
      fed_follows =
          record {
            bytes = with_lines lines (line ++ 10 ∷ tail);
            given = gives before.left so_far lines (line ++ 10 ∷ tail) so.told (fed_given so_far after.left line reader_new.lines.ahead fed);
            first = first_lines limits lines so.left so.read before after (line ++ 10 ∷ tail);
            last = λ quit. at_quit limits lines so.left so.read before after line tail is_line fits room quit;
            next = λ on. next_line limits lines so.left so.read before after line tail is_line fits room on;
            first_with_it = λ on.
                subst (AreFirst limits (lines ++ line ∷ [])) (with_lines_more lines line tail)
                (first_lines limits (lines ++ line ∷ []) (so.left - (length line + 1)) (read_more limits.line limits.input so.left lines line so.read is_line fits on room) before after tail);
          }

    -- The last line, which no line feed ended.
    module _ (ends : IfSome so_far (λ rest. rest ≡ line)) (all : length line < unread reader.lines) (some : 0 < length line) where
      last_room : length line ≤ so.left
      last_room = omega (arith, all, so.unread_is)

      pub last_follows : Follows limits before lines line
      last_follows =
          record {
            bytes = with_lines lines line;
            given = gives before.left so_far lines line so.told (last_given so_far line ends);
            first = first_lines limits lines so.left so.read before after line;
            last = λ quit. at_last_quit limits lines so.left so.read before after line is_line fits last_room some quit;
            next = λ on. next_last limits lines so.left so.read before after line is_line fits last_room some on;
            first_with_it = λ on. first_with_last limits lines so.left so.read before after line is_line fits last_room some on;
          }

      pub none_behind_last : quits line ≡ false → NoneFollows limits before after (lines ++ line ∷ []) AtEnd
      none_behind_last on =
          record {
            bytes = with_lines lines line;
            given = gives before.left so_far lines line so.told (last_given so_far line ends);
            stops = at_last limits lines so.left so.read before after line is_line fits last_room some on;
          }

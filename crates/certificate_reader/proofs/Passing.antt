-- From behind some lines to behind one more, and what a file comes to from there.
use Rattle.std.proofs.Common.{◌≡◌, ℕ, ◌+◌, ◌<◌, ◌≤◌, false, List, [], ◌∷◌, ◌++◌, length, take, refl, sym, ap, ◌∙◌, subst, inl, inr, arith, append_assoc, append-nil, length-append, Option, None, Some, Ok}
use Rattle.std.specs.Prelude.{All, IsSomeAnd, nat_lt, ⊤}
use Rattle.std.specs.FinMap.{get}
use Rattle.std.specs.List.{slice_split}
use Rattle.std.proofs.lemmas.Bool.{le-ltb}
use Rattle.std.proofs.lemmas.List.{take_all}
use Rattle.std.proofs.lemmas.List.Elements.{All-append, All-cons, All-nil}
use Rattle.shelf_port.specs.Files.{Files, HasFile}
use Rattle.shelf_lines.specs.Line.{is_line_feed, IsLine}
use Rattle.shelf_lines.specs.Rest.{LineState, ForFile, rest_of, start_of, unread}
use Rattle.shelf_lines.proofs.Split.{lines_and_rest, some_piece}
use Rattle.shelf_lines.proofs.Told.{has_more, found_there}
use Rattle.location_terms.specs.Instance.{Instance}
use Rattle.certificate_lines.specs.declared.limits.TheConstants.{MAX_CERTIFICATE_BYTES}
use Rattle.certificate_lines.specs.declared.line.Shown.{Shown as CodeShown}
use Rattle.certificate_lines.specs.Due.{HeaderDue, Shown, Suits}
use Rattle.certificate_lines.specs.Lines.{read_line}
use Rattle.certificate_lines.specs.Model.{due_of, shown_of}
use Rattle.certificate_lines.specs.Text.{text_of_lines}
use Rattle.certificate_lines.proofs.Printed.{pieces_of_text}
use Rattle.certificate_reader.specs.declared.reader.CertReader.{CertReader}
use Rattle.certificate_reader.specs.Transcript.{Transcript, behind, line_first, transcript_from, transcript_within}
use Rattle.certificate_reader.specs.declared.reader.Seen.TheVariants.{Line}
use Rattle.certificate_reader.specs.Behind.{IsBehind, MayRead, Steps}
use Rattle.certificate_reader.proofs.Transcripts.{takes, behind-behind}

-- a new reader stands behind no lines
pub behind_none : (told : Option Files) (name : List ℕ) (limit : ℕ) (I : Instance) (reader : CertReader) → limit ≤ MAX_CERTIFICATE_BYTES → reader.lines ≡ start_of limit → due_of reader.due ≡ HeaderDue → reader.line ≡ 1 → IsBehind told name limit I [] reader
behind_none told name limit I reader within start due line = record {
  past = [];
  are_lines = All-nil IsLine;
  fits = subst (λ (r : LineState). 0 + unread r ≤ limit) (sym start) (omega arith);
  leads = λ longer pieces some. ap (λ d. transcript_from longer I d 1 pieces) (sym due) ∙ ap (λ n. transcript_from longer I (due_of reader.due) n pieces) (sym line);
  parts = λ files is file at. ap (λ (r : LineState). slice_split is_line_feed (rest_of r file)) (sym start);
  there = inl (refl, ap (λ (r : LineState). r.ahead) start);
  line = line;
  same_limit = ap (λ (r : LineState). r.limit) start;
  ready = record {
    suits = subst (Suits I) (sym due) tt;
    few = subst (λ (r : LineState). reader.line + unread r ≤ MAX_CERTIFICATE_BYTES + 1) (sym start) (omega (arith, within, line));
  };
}

-- a line is handed out
pub record HandsOut (told : Option Files) (name : List ℕ) (old new : LineState) : Type 0 where
  pub rest : ForFile told name (λ file. rest_of old file ≡ new.line ++ 10 ∷ rest_of new file)
  pub is_line : IsLine new.line
  pub there : old.ahead ≡ [] → HasFile told name (λ _. ⊤)
  pub takes_off : unread old ≡ length new.line + 1 + unread new
  pub same_limit : new.limit ≡ old.limit

-- the text of lines with one more
pub length-one_more : (lines : List (List ℕ)) (text : List ℕ) → length (text_of_lines (lines ++ text ∷ [])) ≡ length (text_of_lines lines) + (length text + 1)
length-one_more [] text = omega (arith, length-append (text ++ 10 ∷ []) [], length-append text (10 ∷ []))
length-one_more (line ∷ lines) text = omega (arith, length-append (line ++ 10 ∷ []) (text_of_lines (lines ++ text ∷ [])), length-append (line ++ 10 ∷ []) (text_of_lines lines), length-one_more lines text)

-- the bytes are those of the file where it is told, and else any that are so
pub may_read : (told : Option Files) (name : List ℕ) (limit : ℕ) (I : Instance) (P : Transcript → Type 0) → HasFile told name (λ file. P (transcript_within limit I file)) → (bytes : List ℕ) → P (transcript_within limit I bytes) → MayRead told name limit I P
may_read None name limit I P has bytes so = (bytes, tt, so)
may_read (Some files) name limit I P has bytes so =
    elim (get files name) as (λ found. get files name ≡ found → IsSomeAnd found (λ file. P (transcript_within limit I file)) → MayRead (Some files) name limit I P) [
      | None ↦ λ at h. absurd h
      | Some file ↦ λ at h. (file, at, h)
    ] refl has

module _ (told : Option Files) (name : List ℕ) (limit : ℕ) (I : Instance) (seen : List Shown) (reader : CertReader) (b : IsBehind told name limit I seen reader) where
  -- what the file comes to where it is told
  pub at_file : ForFile told name (λ file. transcript_within limit I file ≡ behind seen (transcript_from (nat_lt limit (length file)) I (due_of reader.due) reader.line (slice_split is_line_feed (rest_of reader.lines file))))
  at_file = λ files is file at.
      ap (transcript_from (nat_lt limit (length file)) I HeaderDue 1) (b.parts files is file at)
      ∙ b.leads (nat_lt limit (length file)) (slice_split is_line_feed (rest_of reader.lines file)) (some_piece (rest_of reader.lines file))

  -- what the text of the lines comes to, and of more lines that may follow
  pub at_text : (more : List (List ℕ)) → All IsLine more → length (text_of_lines (b.past ++ more)) ≤ limit → transcript_within limit I (text_of_lines (b.past ++ more)) ≡ behind seen (transcript_from false I (due_of reader.due) reader.line (more ++ [] ∷ []))
  at_text more are within =
      let text = text_of_lines (b.past ++ more) in
      ap (λ longer. transcript_from longer I HeaderDue 1 (slice_split is_line_feed (take limit text))) (le-ltb limit (length text) within)
      ∙ ap (λ bytes. transcript_from false I HeaderDue 1 (slice_split is_line_feed bytes)) (take_all limit text within)
      ∙ ap (transcript_from false I HeaderDue 1) (pieces_of_text (b.past ++ more) (All-append IsLine b.past more b.are_lines are) ∙ append_assoc b.past more ([] ∷ []))
      ∙ b.leads false (more ++ [] ∷ []) (omega (arith, length-append more ([] ∷ [])))

  -- the file is there, once a reader has looked at it
  pub looked_there : (reader.lines.ahead ≡ [] → HasFile told name (λ _. ⊤)) → HasFile told name (λ _. ⊤)
  looked_there look = found_there told told name ((seen ≡ []) × (reader.lines.ahead ≡ [])) refl b.there (λ first. look first.1)

  -- a line is handed out, and read
  pub goes_on : (new : CertReader) (shown : Shown) → HandsOut told name reader.lines new.lines → read_line I (due_of reader.due) new.lines.line ≡ Ok (due_of new.due, shown) → new.line ≡ reader.line + 1 → Suits I (due_of new.due) → IsBehind told name limit I (seen ++ shown ∷ []) new
  goes_on new shown line says counts suits = record {
    past = b.past ++ new.lines.line ∷ [];
    are_lines = All-append IsLine b.past (new.lines.line ∷ []) b.are_lines (All-cons IsLine new.lines.line [] line.is_line (All-nil IsLine));
    fits = omega (arith, b.fits, line.takes_off, length-one_more b.past new.lines.line);
    leads = λ longer pieces some.
        ap (transcript_from longer I HeaderDue 1) (append_assoc b.past (new.lines.line ∷ []) pieces)
        ∙ b.leads longer (new.lines.line ∷ pieces) (omega arith)
        ∙ ap (behind seen)
        (takes longer I (due_of reader.due) reader.line new.lines.line pieces some
        ∙ ap (λ said. line_first reader.line said (λ next. transcript_from longer I next (reader.line + 1) pieces)) says
        ∙ ap (λ n. behind (shown ∷ []) (transcript_from longer I (due_of new.due) n pieces)) (sym counts))
        ∙ behind-behind seen (shown ∷ []) (transcript_from longer I (due_of new.due) new.line pieces);
    parts = λ files is file at.
        b.parts files is file at
        ∙ ap (λ bytes. b.past ++ slice_split is_line_feed bytes) (line.rest files is file at)
        ∙ ap (λ pieces. b.past ++ pieces) (lines_and_rest new.lines.line (rest_of new.lines file) line.is_line)
        ∙ sym (append_assoc b.past (new.lines.line ∷ []) (slice_split is_line_feed (rest_of new.lines file)));
    there = inr (looked_there line.there);
    line = omega (arith, counts, b.line, length-append seen (shown ∷ []));
    same_limit = line.same_limit ∙ b.same_limit;
    ready = record { suits = suits; few = omega (arith, b.ready.few, line.takes_off, counts) };
  }

  -- the file may be one that shows these and goes on somehow
  pub goes_somehow : 0 < length seen → MayRead told name limit I (λ read. (rest : Transcript) × (read ≡ behind seen rest))
  goes_somehow some =
      may_read told name limit I (λ read. (rest : Transcript) × (read ≡ behind seen rest))
      (has_more told name (λ _. ⊤) (λ file. (rest : Transcript) × (transcript_within limit I file ≡ behind seen rest)) (λ files is file at _. (transcript_from (nat_lt limit (length file)) I (due_of reader.due) reader.line (slice_split is_line_feed (rest_of reader.lines file)), at_file files is file at)) is_there)
      (text_of_lines (b.past ++ []))
      (transcript_from false I (due_of reader.due) reader.line ([] ∷ []), at_text [] (All-nil IsLine) (subst (λ (lines : List (List ℕ)). length (text_of_lines lines) ≤ limit) (sym (append-nil b.past)) (omega (arith, b.fits))))
    where
      is_there : HasFile told name (λ _. ⊤)
      is_there =
          elim b.there [
            | inl first ↦ absurd (omega (arith, some, ap length first.0))
            | inr there ↦ there
          ]

-- a reader stands behind lines that show what P says of
pub record HasSeen (told : Option Files) (name : List ℕ) (limit : ℕ) (I : Instance) (P : List Shown → Type 0) (reader : CertReader) : Type 0 where
  pub seen : List Shown
  pub behind : IsBehind told name limit I seen reader
  pub has : P seen

-- and then one line more
pub seen_more : (told : Option Files) (name : List ℕ) (limit : ℕ) (I : Instance) (P Q : List Shown → Type 0) (old new : CertReader) (so_far : HasSeen told name limit I P old) (number : ℕ) (shown : CodeShown)
    → Steps told name I old new (Ok (Line number shown)) → Q (so_far.seen ++ shown_of shown ∷ []) → HasSeen told name limit I Q new
seen_more told name limit I P Q old new so_far number shown steps has = record { seen = so_far.seen ++ shown_of shown ∷ []; behind = steps limit so_far.seen so_far.behind; has = has }

-- What a file comes to where its reader stops.
use Rattle.std.proofs.Common.{◌≡◌, ℕ, ◌+◌, ◌<◌, ◌≤◌, true, false, List, [], ◌∷◌, ◌++◌, length, take, drop, refl, sym, ap, ◌∙◌, subst, inl, inr, arith, append-nil, length-append, Option, None, Some, Result, Ok, Err}
use Rattle.std.specs.Prelude.{All, IfOk, IsErrOf, replicate, nat_lt, ⊤}
use Rattle.std.specs.List.{slice_split}
use Rattle.std.proofs.lemmas.Bool.{le-ltb, lt-ltb}
use Rattle.std.proofs.lemmas.List.{length-replicate}
use Rattle.std.proofs.lemmas.List.Elements.{All-cons, All-nil, All-replicate, All-take}
use Rattle.shelf_port.specs.Files.{Files, HasFile}
use Rattle.shelf_lines.specs.Line.{is_line_feed, IsLine}
use Rattle.shelf_lines.specs.Rest.{LineState, ForFile, rest_of, unread, IsAtEnd, IsAtLimit}
use Rattle.shelf_lines.proofs.Told.{has_more}
use Rattle.location_terms.specs.declared.claim.Claim.{Claim}
use Rattle.location_terms.specs.Instance.{Instance}
use Rattle.certificate_lines.specs.declared.fault.CertFault.{CertFault}
use Rattle.certificate_lines.specs.declared.fault.CertFault.TheVariants.{Text, TooLong, ReadFailed, NoMemory}
use Rattle.certificate_lines.specs.declared.kind.CertKind.{CertKind}
use Rattle.certificate_lines.specs.declared.kind.CertKind.TheVariants.{Ended, Trailing}
use Rattle.certificate_lines.specs.Due.{Due, HeaderDue, NothingDue, Shown}
use Rattle.certificate_lines.specs.Lines.{read_line}
use Rattle.certificate_lines.specs.Model.{due_of, shown_of}
use Rattle.certificate_lines.specs.Text.{text_of_lines}
use Rattle.certificate_reader.specs.declared.reader.CertReader.{CertReader}
use Rattle.certificate_reader.specs.declared.reader.Seen.{Seen}
use Rattle.certificate_reader.specs.declared.reader.Seen.TheVariants.{Line, Whole}
use Rattle.certificate_reader.specs.Transcript.{Transcript, ends, behind, at_rest, line_first, transcript_from, transcript_within}
use Rattle.certificate_reader.specs.Behind.{IsBehind, IsSoundLine, IsTaken, MayRead, FailsWith, Steps, claim_due}
use Rattle.certificate_reader.proofs.Transcripts.{whole_due, rest_ended, rest_cut, line_takes, rests, trailing}
use Rattle.certificate_reader.proofs.Passing.{HandsOut, length-one_more, may_read, at_file, at_text, looked_there, goes_on}

-- bytes without a line feed that go on behind the limit are too long
endless : (limit : ℕ) (I : Instance) (seen : List Shown) → (bytes : List ℕ) × FailsWith seen TooLong (transcript_within limit I bytes)
endless limit I seen =
    let bytes : List ℕ = replicate (limit + 1) 0 in
    let beyond : nat_lt limit (length bytes) ≡ true = lt-ltb limit (length bytes) (omega (arith, length-replicate {A = ℕ} (limit + 1) 0)) in
    let are_line : IsLine (take limit bytes) = All-take (λ b. is_line_feed b ≡ false) limit bytes (All-replicate (λ b. is_line_feed b ≡ false) (limit + 1) 0 refl) in
    let is : transcript_within limit I bytes ≡ ends (Err TooLong) = ap (λ longer. transcript_from longer I HeaderDue 1 (slice_split is_line_feed (take limit bytes))) beyond ∙ rests true I HeaderDue 1 (take limit bytes) (take limit bytes) are_line refl in
    (bytes, record { more = seen; seen_is = ap (λ (t : Transcript). t.shown ++ seen) is; end = ap (λ (t : Transcript). t.end) is })

-- what is shown, and then a fault
pub fails : (seen : List Shown) (fault : CertFault) (read : Transcript) → read ≡ behind seen (ends (Err fault)) → FailsWith seen fault read
fails seen fault read is = record {
  more = [];
  seen_is = append-nil read.shown ∙ ap (λ (t : Transcript). t.shown) is ∙ append-nil seen;
  end = ap (λ (t : Transcript). t.end) is;
}

module _ (told : Option Files) (name : List ℕ) (limit : ℕ) (I : Instance) (seen : List Shown) (reader : CertReader) (b : IsBehind told name limit I seen reader) where
  -- what is left of the file comes to this end
  abbrev EndsSo : Result Claim CertFault → List ℕ → Type 0
  EndsSo end file = transcript_from (nat_lt limit (length file)) I (due_of reader.due) reader.line (slice_split is_line_feed (rest_of reader.lines file)) ≡ ends end

  in_file : (P : List ℕ → Type 0) (end : Result Claim CertFault) → HasFile told name P → ForFile told name (λ file. P file → EndsSo end file) → HasFile told name (λ file. transcript_within limit I file ≡ behind seen (ends end))
  in_file P end has so = has_more told name P (λ file. transcript_within limit I file ≡ behind seen (ends end)) (λ files is file at p. at_file told name limit I seen reader b files is file at ∙ ap (behind seen) (so files is file at p)) has

  -- the file ends so, and bytes do that are the lines so far and these
  read_to : (P : List ℕ → Type 0) (end : Result Claim CertFault) → HasFile told name P → ForFile told name (λ file. P file → EndsSo end file)
      → (more : List (List ℕ)) → All IsLine more → length (text_of_lines (b.past ++ more)) ≤ limit → transcript_from false I (due_of reader.due) reader.line (more ++ [] ∷ []) ≡ ends end
      → MayRead told name limit I (λ read. read ≡ behind seen (ends end))
  read_to P end has so more are within is =
      may_read told name limit I (λ read. read ≡ behind seen (ends end)) (in_file P end has so) (text_of_lines (b.past ++ more)) (at_text told name limit I seen reader b more are within ∙ ap (behind seen) is)

  fails_with : (fault : CertFault) → MayRead told name limit I (λ read. read ≡ behind seen (ends (Err fault))) → MayRead told name limit I (FailsWith seen fault)
  fails_with fault may = (may.0, may.1, fails seen fault (transcript_within limit I may.0) may.2)

  too_long : HasFile told name (λ file. transcript_within limit I file ≡ behind seen (ends (Err TooLong))) → MayRead told name limit I (FailsWith seen TooLong)
  too_long has =
      let some = endless limit I seen in
      may_read told name limit I (FailsWith seen TooLong) (has_more told name (λ file. transcript_within limit I file ≡ behind seen (ends (Err TooLong))) (λ file. FailsWith seen TooLong (transcript_within limit I file)) (λ files is file at read. fails seen TooLong (transcript_within limit I file) read) has) some.0 some.1

  no_more : length (text_of_lines (b.past ++ [])) ≤ limit
  no_more = subst (λ (lines : List (List ℕ)). length (text_of_lines lines) ≤ limit) (sym (append-nil b.past)) (omega (arith, b.fits))

  one_more : (line : List ℕ) → length line + 1 ≤ unread reader.lines → length (text_of_lines (b.past ++ line ∷ [])) ≤ limit
  one_more line room = omega (arith, b.fits, room, length-one_more b.past line)

  -- the rest is one piece, within the limit or up to it
  ends_within : (now : LineState) (file line : List ℕ) → length file ≤ now.limit → now.limit ≡ reader.lines.limit → rest_of reader.lines file ≡ line → IsLine line → (due : Due) → due_of reader.due ≡ due → EndsSo (at_rest false due reader.line line) file
  ends_within now file line within same rest is_line due is =
      ap (λ longer. transcript_from longer I (due_of reader.due) reader.line (slice_split is_line_feed (rest_of reader.lines file))) (le-ltb limit (length file) (omega (arith, within, same, b.same_limit)))
      ∙ rests false I (due_of reader.due) reader.line (rest_of reader.lines file) line is_line rest
      ∙ ap (λ d. ends (at_rest false d reader.line line)) is

  goes_past : (now : LineState) (file line : List ℕ) → now.limit < length file → now.limit ≡ reader.lines.limit → rest_of reader.lines file ≡ line → IsLine line → (due : Due) → due_of reader.due ≡ due → EndsSo (at_rest true due reader.line line) file
  goes_past now file line beyond same rest is_line due is =
      ap (λ longer. transcript_from longer I (due_of reader.due) reader.line (slice_split is_line_feed (rest_of reader.lines file))) (lt-ltb limit (length file) (omega (arith, beyond, same, b.same_limit)))
      ∙ rests true I (due_of reader.due) reader.line (rest_of reader.lines file) line is_line rest
      ∙ ap (λ d. ends (at_rest true d reader.line line)) is

  -- a line that is handed out has a fault
  pub line_fails : (new : LineState) (kind : CertKind) → HandsOut told name reader.lines new → read_line I (due_of reader.due) new.line ≡ Err kind → MayRead told name limit I (FailsWith seen (Text kind reader.line))
  line_fails new kind line says =
      fails_with (Text kind reader.line)
      (read_to (λ _. ⊤) (Err (Text kind reader.line)) (looked_there told name limit I seen reader b line.there)
      (λ files is file at _.
      line_takes (nat_lt limit (length file)) I (due_of reader.due) reader.line (rest_of reader.lines file) new.line (rest_of new file) line.is_line (line.rest files is file at)
      ∙ ap (λ said. line_first reader.line said (λ next. transcript_from (nat_lt limit (length file)) I next (reader.line + 1) (slice_split is_line_feed (rest_of new file)))) says)
      (new.line ∷ []) (All-cons IsLine new.line [] line.is_line (All-nil IsLine)) (one_more new.line (omega (arith, line.takes_off)))
      (ap (λ said. line_first reader.line said (λ next. transcript_from false I next (reader.line + 1) ([] ∷ []))) says))

  module _ (due : claim_due (due_of reader.due) ≡ None) where
    -- the file ends where a line is due
    pub ends_too_soon : (new : LineState) → HasFile told name (λ file. (rest_of reader.lines file ≡ new.line) × IsAtEnd new file) → IsLine new.line → new.limit ≡ reader.lines.limit → MayRead told name limit I (FailsWith seen (Text Ended reader.line))
    ends_too_soon new has is_line same =
        fails_with (Text Ended reader.line)
        (read_to (λ file. (rest_of reader.lines file ≡ new.line) × IsAtEnd new file) (Err (Text Ended reader.line)) has
        (λ files is file at end. ends_within new file new.line end.1.within same end.0 is_line (due_of reader.due) refl ∙ ap ends (rest_ended (due_of reader.due) reader.line new.line due))
        [] (All-nil IsLine) no_more (ap ends (rest_ended (due_of reader.due) reader.line [] due)))

    -- the limit comes where a line is due
    pub cut_in_line : (new : LineState) → HasFile told name (λ file. (rest_of reader.lines file ≡ new.line) × IsAtLimit new file) → IsLine new.line → new.limit ≡ reader.lines.limit → MayRead told name limit I (FailsWith seen TooLong)
    cut_in_line new has is_line same =
        too_long
        (in_file (λ file. (rest_of reader.lines file ≡ new.line) × IsAtLimit new file) (Err TooLong) has
        (λ files is file at end. goes_past new file new.line end.1.longer same end.0 is_line (due_of reader.due) refl ∙ ap ends (rest_cut (due_of reader.due) reader.line new.line due)))

  module _ (claim : Claim) (done : claim_due (due_of reader.due) ≡ Some claim) (now : LineState) (rest : ForFile told name (λ file. rest_of now file ≡ rest_of reader.lines file)) where
    nothing : due_of reader.due ≡ NothingDue claim
    nothing = whole_due (due_of reader.due) claim done

    no_bytes : IsLine []
    no_bytes = All-nil (λ b. is_line_feed b ≡ false)

    -- the file ends where no line is due
    pub reads_whole : HasFile told name (IsAtEnd now) → now.limit ≡ reader.lines.limit → MayRead told name limit I (λ read. read ≡ behind seen (ends (Ok claim)))
    reads_whole has same =
        read_to (IsAtEnd now) (Ok claim) has
        (λ files is file at end. ends_within now file [] end.within same (sym (rest files is file at) ∙ end.rest) no_bytes (NothingDue claim) nothing)
        [] (All-nil IsLine) no_more (ap (λ due. ends (at_rest false due reader.line [])) nothing)

    -- the limit comes where no line is due
    pub cut_behind : HasFile told name (IsAtLimit now) → now.limit ≡ reader.lines.limit → MayRead told name limit I (FailsWith seen TooLong)
    cut_behind has same =
        too_long
        (in_file (IsAtLimit now) (Err TooLong) has
        (λ files is file at end. goes_past now file [] end.longer same (sym (rest files is file at) ∙ end.rest) no_bytes (NothingDue claim) nothing))

    -- bytes follow where no line is due
    pub bytes_behind : (reader.lines.ahead ≡ [] → HasFile told name (λ _. ⊤)) → 0 < length now.ahead → unread now ≡ unread reader.lines → MayRead told name limit I (FailsWith seen (Text Trailing reader.line))
    bytes_behind look some left =
        fails_with (Text Trailing reader.line)
        (read_to (λ _. ⊤) (Err (Text Trailing reader.line)) (looked_there told name limit I seen reader b look)
        (λ files is file at _.
        ap (λ due. transcript_from (nat_lt limit (length file)) I due reader.line (slice_split is_line_feed (rest_of reader.lines file))) nothing
        ∙ trailing (nat_lt limit (length file)) I claim reader.line (rest_of reader.lines file) (omega (arith, some, ap length (rest files is file at), length-append now.ahead (drop now.at (take now.limit file)))))
        ([] ∷ []) (All-cons IsLine [] [] no_bytes (All-nil IsLine)) (one_more [] (omega (arith, some, left)))
        (ap (λ due. transcript_from false I due reader.line ([] ∷ [] ∷ [])) nothing))

-- what a reader comes to by the line that was handed out
module _ (told : Option Files) (name : List ℕ) (I : Instance) (old new : CertReader) (lines : LineState) (line : HandsOut told name old.lines lines) where
  pub line_steps : (r : Result Seen CertFault) → IsTaken I (record old { lines = lines }) new r → Steps told name I old new r
  line_steps (Ok (Line number shown)) taken = λ limit seen b.
      goes_on told name limit I seen old b new (shown_of shown) (subst (HandsOut told name old.lines) (sym taken.5) line) (ap (λ (l : LineState). read_line I (due_of old.due) l.line) taken.5 ∙ taken.1) taken.4 taken.3
  line_steps (Ok (Whole claim)) taken = absurd taken
  line_steps (Err (Text kind number)) taken = λ limit seen b.
      inr (subst (λ n. MayRead told name limit I (FailsWith seen (Text kind n))) (sym taken.0) (line_fails told name limit I seen old b lines kind line taken.1))
  line_steps (Err NoMemory) taken = λ limit seen b. inl (inr refl)
  line_steps (Err fault) taken = absurd taken

  pub line_sound : (r : Result Seen CertFault) → IsTaken I (record old { lines = lines }) new r → IfOk r (IsSoundLine I old new)
  line_sound (Ok (Line number shown)) taken = (taken.0, taken.2, omega (arith, line.takes_off, ap unread taken.5))
  line_sound (Ok (Whole claim)) taken = tt
  line_sound (Err fault) taken = tt

pub no_read : {P : Type 0} (I : Instance) (old new : CertReader) (lines : LineState) (r : Result Seen CertFault) → IsTaken I (record old { lines = lines }) new r → IsErrOf r ReadFailed → P
no_read I old new lines r taken is = absurd (subst (IsTaken I (record old { lines = lines }) new) is taken)

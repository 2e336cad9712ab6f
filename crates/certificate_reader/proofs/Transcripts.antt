-- What the pieces of a text come to, a line at a time.
use Rattle.std.proofs.Common.{◌≡◌, ℕ, ◌+◌, ◌<◌, Bool, true, false, cond, List, [], ◌∷◌, ◌++◌, length, refl, sym, ap, ◌∙◌, arith, append_assoc, Some, None, Err}
use Rattle.std.specs.List.{slice_split, onto_first}
use Rattle.shelf_lines.specs.Line.{is_line_feed, IsLine}
use Rattle.shelf_lines.proofs.Split.{lines_and_rest, one_line, some_piece}
use Rattle.location_terms.specs.declared.claim.Claim.{Claim}
use Rattle.location_terms.specs.Instance.{Instance}
use Rattle.certificate_lines.specs.declared.fault.CertFault.TheVariants.{Text, TooLong}
use Rattle.certificate_lines.specs.declared.kind.CertKind.TheVariants.{Ended, Trailing}
use Rattle.certificate_lines.specs.Due.{Due, NothingDue, Shown}
use Rattle.certificate_lines.specs.Lines.{read_line}
use Rattle.certificate_reader.specs.Transcript.{Transcript, ends, behind, at_rest, line_first, transcript_from}
use Rattle.certificate_reader.specs.Behind.{claim_due}

pub behind-behind : (xs ys : List Shown) (t : Transcript) → behind xs (behind ys t) ≡ behind (xs ++ ys) t
behind-behind xs ys t = ap (λ (shown : List Shown). let r : Transcript = record { shown = shown; end = t.end } in r) (sym (append_assoc xs ys t.shown))

-- a text is whole where nothing is due
pub whole_due : (due : Due) (claim : Claim) → claim_due due ≡ Some claim → due ≡ NothingDue claim
whole_due (NothingDue other) claim e = cc
whole_due due claim e = absurd (cc)

-- what has no line feed behind it, where a line is due
pub rest_ended : (due : Due) (line : ℕ) (rest : List ℕ) → claim_due due ≡ None → at_rest false due line rest ≡ Err (Text Ended line)
rest_ended (NothingDue claim) line rest e = absurd (cc)
rest_ended due line rest e = refl

pub rest_cut : (due : Due) (line : ℕ) (rest : List ℕ) → claim_due due ≡ None → at_rest true due line rest ≡ Err TooLong
rest_cut (NothingDue claim) line rest e = absurd (cc)
rest_cut due line rest e = refl

-- a line with pieces behind it is taken
pub takes : (longer : Bool) (I : Instance) (due : Due) (n : ℕ) (line : List ℕ) (pieces : List (List ℕ)) → 0 < length pieces → transcript_from longer I due n (line ∷ pieces) ≡ line_first n (read_line I due line) (λ next. transcript_from longer I next (n + 1) pieces)
takes longer I due n line [] some = absurd (omega arith)
takes longer I due n line (piece ∷ pieces) some = refl

-- bytes that begin with a line
pub line_takes : (longer : Bool) (I : Instance) (due : Due) (n : ℕ) (bytes line rest : List ℕ) → IsLine line → bytes ≡ line ++ 10 ∷ rest
    → transcript_from longer I due n (slice_split is_line_feed bytes) ≡ line_first n (read_line I due line) (λ next. transcript_from longer I next (n + 1) (slice_split is_line_feed rest))
line_takes longer I due n bytes line rest is_line is =
    ap (λ bs. transcript_from longer I due n (slice_split is_line_feed bs)) is
    ∙ ap (transcript_from longer I due n) (lines_and_rest line rest is_line)
    ∙ takes longer I due n line (slice_split is_line_feed rest) (some_piece rest)

-- bytes without a line feed
pub rests : (longer : Bool) (I : Instance) (due : Due) (n : ℕ) (bytes rest : List ℕ) → IsLine rest → bytes ≡ rest → transcript_from longer I due n (slice_split is_line_feed bytes) ≡ ends (at_rest longer due n rest)
rests longer I due n bytes rest is_line is = ap (λ bs. transcript_from longer I due n (slice_split is_line_feed bs)) is ∙ ap (transcript_from longer I due n) (one_line rest is_line)

-- bytes behind the last line are its fault, with line feeds in them or without
trailing_piece : (longer : Bool) (I : Instance) (claim : Claim) (n b : ℕ) (pieces : List (List ℕ)) → transcript_from longer I (NothingDue claim) n (onto_first b pieces) ≡ ends (Err (Text Trailing n))
trailing_piece longer I claim n b [] = refl
trailing_piece longer I claim n b (piece ∷ []) = refl
trailing_piece longer I claim n b (piece ∷ next ∷ pieces) = refl

trailing_bytes : (longer : Bool) (I : Instance) (claim : Claim) (n b : ℕ) (bytes : List ℕ) (feed : Bool) → transcript_from longer I (NothingDue claim) n (cond feed ([] ∷ slice_split is_line_feed bytes) (onto_first b (slice_split is_line_feed bytes))) ≡ ends (Err (Text Trailing n))
trailing_bytes longer I claim n b bytes true = takes longer I (NothingDue claim) n [] (slice_split is_line_feed bytes) (some_piece bytes)
trailing_bytes longer I claim n b bytes false = trailing_piece longer I claim n b (slice_split is_line_feed bytes)

pub trailing : (longer : Bool) (I : Instance) (claim : Claim) (n : ℕ) (bytes : List ℕ) → 0 < length bytes → transcript_from longer I (NothingDue claim) n (slice_split is_line_feed bytes) ≡ ends (Err (Text Trailing n))
trailing longer I claim n [] some = absurd (omega arith)
trailing longer I claim n (b ∷ bytes) some = trailing_bytes longer I claim n b bytes (is_line_feed b)

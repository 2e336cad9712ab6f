-- A text without a fault is that of one certificate, and shows what the certificate shows; and the text of a certificate has no fault.
use Rattle.std.proofs.Common.{◌≡◌, ℕ, ◌+◌, ◌<◌, ◌≤◌, true, false, List, [], ◌∷◌, ◌++◌, length, take, refl, sym, ap, ◌∙◌, arith, inl, inr, append-nil, length-append, Some, Ok, Err}
use Rattle.std.specs.Prelude.{flat_map, nat_lt}
use Rattle.std.specs.List.{slice_split}
use Rattle.std.proofs.lemmas.Bool.{cases_Bool, ltb-false, le-ltb}
use Rattle.std.proofs.lemmas.List.{take_all}
use Rattle.shelf_lines.specs.Line.{is_line_feed}
use Rattle.shelf_lines.proofs.Split.{some_piece}
use Rattle.location_terms.specs.declared.claim.Claim.{Claim}
use Rattle.location_terms.specs.Instance.{Instance, IsValid}
use Rattle.location_terms.specs.Certificate.{Certificate}
use Rattle.certificate_lines.specs.Due.{Due, HeaderDue, NothingDue, Shown}
use Rattle.certificate_lines.specs.Lines.{Said, read_line}
use Rattle.certificate_lines.specs.Text.{certificate_lines, certificate_text, text_of_lines}
use Rattle.certificate_lines.specs.Follow.{shown_list, follow, HasText, shown_by}
use Rattle.certificate_lines.proofs.Printed.{text_of_pieces, pieces_of_text, followed_are_lines}
use Rattle.certificate_lines.proofs.Following.{first_read, none_left, none_shown, follow-line}
use Rattle.certificate_lines.proofs.ReadBack.{read_back}
use Rattle.certificate_lines.proofs.Spelled.{spelled}
use Rattle.certificate_reader.specs.Transcript.{ends, behind, at_rest, line_first, transcript_from, transcript_of, transcript_within}
use Rattle.certificate_reader.proofs.Transcripts.{takes}

-- pieces that are lines, which are read to the end, and nothing behind the last line feed
pub record IsFollowed (I : Instance) (due : Due) (pieces : List (List ℕ)) (claim : Claim) (shown : List Shown) : Type 0 where
  pub lines : List (List ℕ)
  pub parts : pieces ≡ lines ++ [] ∷ []
  pub read : follow I due lines ≡ Some (NothingDue claim, flat_map shown_list shown)

rest_whole : (I : Instance) (due : Due) (n : ℕ) (rest : List ℕ) (claim : Claim) → at_rest false due n rest ≡ Ok claim → IsFollowed I due (rest ∷ []) claim []
rest_whole I (NothingDue other) n [] claim e =
    let same : other ≡ claim = cc in
    record { lines = []; parts = refl; read = ap (λ c. Some (NothingDue c, [])) same }
rest_whole I (NothingDue other) n (b ∷ rest) claim e = absurd (cc)
rest_whole I due n rest claim e = absurd (cc)

followed : (I : Instance) (due : Due) (n : ℕ) (pieces : List (List ℕ)) (claim : Claim) → 0 < length pieces → (transcript_from false I due n pieces).end ≡ Ok claim → IsFollowed I due pieces claim (transcript_from false I due n pieces).shown
followed I due n [] claim some e = absurd (omega arith)
followed I due n (rest ∷ []) claim some e = rest_whole I due n rest claim e
followed I due n (line ∷ piece ∷ pieces) claim some e = by_said (read_line I due line) refl (λ next. followed I next (n + 1) (piece ∷ pieces) claim (omega arith)) e
  where
    by_said : (said : Said) → read_line I due line ≡ said
        → ((next : Due) → (transcript_from false I next (n + 1) (piece ∷ pieces)).end ≡ Ok claim → IsFollowed I next (piece ∷ pieces) claim (transcript_from false I next (n + 1) (piece ∷ pieces)).shown)
        → (line_first n said (λ next. transcript_from false I next (n + 1) (piece ∷ pieces))).end ≡ Ok claim
        → IsFollowed I due (line ∷ piece ∷ pieces) claim (line_first n said (λ next. transcript_from false I next (n + 1) (piece ∷ pieces))).shown
    by_said (Err kind) is later e = absurd (cc)
    by_said (Ok (next, shown)) is later e =
        let f = later next e in
        record {
          lines = line ∷ f.lines;
          parts = ap (λ ps. line ∷ ps) f.parts;
          read = follow-line I due next (NothingDue claim) line f.lines shown _ is f.read;
        }

-- bytes that come to a claim are the text of a certificate with that claim
pub whole_text : (I : Instance) (bytes : List ℕ) (claim : Claim) → IsValid I → (transcript_of false I bytes).end ≡ Ok claim
    → (cert : Certificate) × (bytes ≡ certificate_text I cert) × HasText I cert × (cert.claim ≡ claim) × (flat_map shown_list (transcript_of false I bytes).shown ≡ shown_by cert)
whole_text I bytes claim valid e =
    let f = followed I HeaderDue 1 (slice_split is_line_feed bytes) claim (some_piece bytes) e in
    let spells = spelled I f.lines claim (flat_map shown_list (transcript_of false I bytes).shown) valid f.read in
    (spells.0, text_of_pieces bytes f.lines [] f.parts ∙ append-nil (text_of_lines f.lines) ∙ ap text_of_lines spells.1, spells.4, spells.2, spells.3)

-- lines that are read show these, and then come to what follows
record Leads (I : Instance) (due : Due) (n : ℕ) (lines : List (List ℕ)) (end : Due) (all : List Shown) : Type 0 where
  shown : List Shown
  are_told : flat_map shown_list shown ≡ all
  leads : (pieces : List (List ℕ)) → 0 < length pieces → transcript_from false I due n (lines ++ pieces) ≡ behind shown (transcript_from false I end (n + length lines) pieces)

leads_behind : (I : Instance) (due : Due) (n : ℕ) (lines : List (List ℕ)) (end : Due) (all : List Shown) → follow I due lines ≡ Some (end, all) → Leads I due n lines end all
leads_behind I due n [] end all e =
    let counts : n ≡ n + 0 = omega arith in
    record { shown = []; are_told = none_shown I due end all e; leads = λ pieces some. ap (λ d. transcript_from false I d n pieces) (none_left I due end all e) ∙ ap (λ k. transcript_from false I end k pieces) counts }
leads_behind I due n (line ∷ lines) end all e =
    let first = first_read I due line lines end all e in
    let later = leads_behind I first.next (n + 1) lines end first.rest first.follows in
    let counts : n + 1 + length lines ≡ n + length (line ∷ lines) = omega arith in
    record {
      shown = first.shown ∷ later.shown;
      are_told = ap (λ rest. shown_list first.shown ++ rest) later.are_told ∙ sym first.whole;
      leads = λ pieces some.
          takes false I due n line (lines ++ pieces) (omega (arith, length-append lines pieces))
          ∙ ap (λ said. line_first n said (λ next. transcript_from false I next (n + 1) (lines ++ pieces))) first.reads
          ∙ ap (behind (first.shown ∷ [])) (later.leads pieces some)
          ∙ ap (λ k. behind (first.shown ∷ later.shown) (transcript_from false I end k pieces)) counts;
    }

-- the text of a certificate comes to its claim, and shows what it shows
pub text_shown : (I : Instance) (cert : Certificate) → IsValid I → HasText I cert → (shown : List Shown) × (transcript_of false I (certificate_text I cert) ≡ behind shown (ends (Ok cert.claim))) × (flat_map shown_list shown ≡ shown_by cert)
text_shown I cert valid has =
    let lines = certificate_lines I cert in
    let read = leads_behind I HeaderDue 1 lines (NothingDue cert.claim) (shown_by cert) (read_back I cert valid has) in
    (read.shown, ap (transcript_from false I HeaderDue 1) (pieces_of_text lines (followed_are_lines I HeaderDue _ lines _ (read_back I cert valid has))) ∙ read.leads ([] ∷ []) (omega arith), read.are_told)

-- a file that goes on past a limit is no whole text within it
rest_not_whole : (due : Due) (n : ℕ) (rest : List ℕ) (claim : Claim) → at_rest true due n rest ≡ Ok claim → ⊥
rest_not_whole (NothingDue other) n [] claim e = cc
rest_not_whole (NothingDue other) n (b ∷ rest) claim e = cc
rest_not_whole due n rest claim e = cc

never_whole : (I : Instance) (due : Due) (n : ℕ) (pieces : List (List ℕ)) (claim : Claim) → (transcript_from true I due n pieces).end ≡ Ok claim → ⊥
never_whole I due n [] claim e = rest_not_whole due n [] claim e
never_whole I due n (rest ∷ []) claim e = rest_not_whole due n rest claim e
never_whole I due n (line ∷ piece ∷ pieces) claim e = by_said (read_line I due line) (λ next. never_whole I next (n + 1) (piece ∷ pieces) claim) e
  where
    by_said : (said : Said) → ((next : Due) → (transcript_from true I next (n + 1) (piece ∷ pieces)).end ≡ Ok claim → ⊥) → (line_first n said (λ next. transcript_from true I next (n + 1) (piece ∷ pieces))).end ≡ Ok claim → ⊥
    by_said (Err kind) later e = cc
    by_said (Ok (next, shown)) later e = later next e

-- within a limit bytes come to what they come to by themselves
pub within_limit : (limit : ℕ) (I : Instance) (bytes : List ℕ) → length bytes ≤ limit → transcript_within limit I bytes ≡ transcript_of false I bytes
within_limit limit I bytes within = ap (λ longer. transcript_of longer I (take limit bytes)) (le-ltb limit (length bytes) within) ∙ ap (transcript_of false I) (take_all limit bytes within)

pub whole_within : (limit : ℕ) (I : Instance) (bytes : List ℕ) (claim : Claim) → (transcript_within limit I bytes).end ≡ Ok claim → length bytes ≤ limit
whole_within limit I bytes claim e =
    elim (cases_Bool (nat_lt limit (length bytes))) [
      | inl longer ↦ absurd (never_whole I HeaderDue 1 (slice_split is_line_feed (take limit bytes)) claim (rw longer at e))
      | inr within ↦ ltb-false limit (length bytes) within
    ]

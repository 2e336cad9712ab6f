-- What reading a certificate comes to, from what its reader says.
use Rattle.std.proofs.Common.{◌≡◌, ◌⊎◌, ℕ, ◌+◌, ◌^◌, ◌<◌, List, [], length, arith, sym, ap, ◌∙◌, subst, inl, inr, append-nil, false, Option, None, Some, Ok, Err}
use Rattle.std.specs.Prelude.{Result, IfOk, IsErrOf, IsSomeAnd, flat_map}
use Rattle.shelf_port.specs.Files.{Files, HasFile, MayHold}
use Rattle.branch_tree.specs.Walk.{IsWhole}
use Rattle.location_terms.specs.declared.claim.Claim.{Claim}
use Rattle.location_terms.specs.Instance.{Instance, IsValid}
use Rattle.certificate_lines.specs.declared.fault.CertFault.{CertFault}
use Rattle.certificate_lines.specs.declared.fault.CertFault.TheVariants.{Text, TooLong}
use Rattle.certificate_lines.specs.declared.kind.CertKind.{CertKind}
use Rattle.certificate_lines.specs.declared.line.Shown.{Shown as CodeShown}
use Rattle.certificate_lines.specs.Due.{Shown}
use Rattle.certificate_lines.specs.Model.{shown_of, IsSound}
use Rattle.certificate_lines.specs.Follow.{shown_list, HasText, shown_by}
use Rattle.certificate_lines.specs.Text.{certificate_text}
use Rattle.certificate_reader.specs.declared.reader.CertReader.{CertReader}
use Rattle.certificate_reader.specs.declared.reader.Seen.TheVariants.{Line, Whole}
use Rattle.certificate_reader.specs.Transcript.{Transcript, ends, behind, transcript_of, transcript_within}
use Rattle.certificate_reader.specs.Behind.{MayRead, FailsWith, IsUnread, Steps}
use Rattle.certificate_reader.proofs.Passing.{HasSeen, seen_more}
use Rattle.certificate_reader.proofs.Meaning.{whole_text, within_limit, whole_within}
use Rattle.certificate_text.specs.declared.certificate.Certificate.{Certificate as Held}
use Rattle.certificate_text.specs.declared.kept.Kept.{Kept}
use Rattle.certificate_text.specs.Cert.{certificate_of}
use Rattle.certificate_text.specs.Form.{HasFault, PassesLimit}
use Rattle.certificate_text.specs.Read.{nothing_kept, kept_with, kept_all, FitsOn, certificate_from, Comes}
use Rattle.certificate_text.proofs.Keeping.{kept_of, kept_whole, kept_more, shown_fits, grows}

-- what is kept is what lines show behind which the reader stands
abbrev pub HasKept : Option Files → List ℕ → ℕ → Instance → CertReader → Kept → Type 0
HasKept told name limit I reader kept = HasSeen told name limit I (λ seen. kept ≡ kept_all (nothing_kept I) seen) reader

-- a fault of the text is no failed read and no want of memory
pub text_is_read : (kind : CertKind) (line : ℕ) → IsUnread (Text kind line) → ⊥
text_is_read kind line (inl failed) = cc
text_is_read kind line (inr none) = cc

pub too_long_is_read : IsUnread TooLong → ⊥
too_long_is_read (inl failed) = cc
too_long_is_read (inr none) = cc

-- what holds of bytes that the file may hold
has_file : (told : Option Files) (name bytes : List ℕ) (P : List ℕ → Type 0) → MayHold told name bytes → P bytes → HasFile told name P
has_file None name bytes P may p = tt
has_file (Some files) name bytes P may p = subst (λ file. IsSomeAnd file P) (sym may) p

-- the text is that of the certificate that was kept
pub record IsFinished (told : Option Files) (name : List ℕ) (I : Instance) (claim : Claim) (kept : Kept) : Type 0 where
  pub has_text : HasText I (certificate_from claim kept)
  pub file : HasFile told name (λ bytes. bytes ≡ certificate_text I (certificate_from claim kept))
  pub whole : IsWhole (Some []) kept.nodes.entries

module _ (told_files : Option Files) (name : List ℕ) (limit : ℕ) (I : Instance) where
  pub finished : (seen : List Shown) (claim : Claim) (kept : Kept) → IsValid I → kept ≡ kept_all (nothing_kept I) seen → MayRead told_files name limit I (λ read. read ≡ behind seen (ends (Ok claim))) → IsFinished told_files name I claim kept
  finished seen claim kept valid is may =
      let bytes = may.0 in
      let within = whole_within limit I bytes claim (ap (λ (t : Transcript). t.end) may.2) in
      let read : transcript_of false I bytes ≡ behind seen (ends (Ok claim)) = sym (within_limit limit I bytes within) ∙ may.2 in
      let text = whole_text I bytes claim valid (ap (λ (t : Transcript). t.end) read) in
      let shown : flat_map shown_list seen ≡ shown_by text.0 = ap (flat_map shown_list) (sym (ap (λ (t : Transcript). t.shown) read ∙ append-nil seen)) ∙ text.4 in
      let same : text.0 ≡ certificate_from claim kept = sym (kept_of I text.0 seen kept text.2 is shown) ∙ ap (λ c. certificate_from c kept) text.3 in
      record {
        has_text = subst (HasText I) same text.2;
        file = has_file told_files name bytes (λ bs. bs ≡ certificate_text I (certificate_from claim kept)) may.1 (text.1 ∙ ap (certificate_text I) same);
        whole = kept_whole I text.0 seen kept is shown;
      }

  -- the certificate is handed on
  pub comes_whole : (claim : Claim) (kept : Kept) (held : Held) → IsFinished told_files name I claim kept → certificate_of held ≡ certificate_from claim kept → Comes told_files name limit I (Ok held)
  comes_whole claim kept held end is =
      (subst (HasText I) (sym is) end.has_text, subst (λ c. HasFile told_files name (λ bytes. bytes ≡ certificate_text I c)) (sym is) end.file)

  -- the reader's fault is
  pub comes_fault : (seen : List Shown) (fault : CertFault) → IsUnread fault ⊎ MayRead told_files name limit I (FailsWith seen fault) → Comes told_files name limit I (Err fault)
  comes_fault seen fault (inl unread) = inl unread
  comes_fault seen fault (inr may) = inr (has_file told_files name may.0 (λ bytes. (transcript_within limit I bytes).end ≡ Err fault) may.1 may.2.end)

  module _ (old new : CertReader) (kept : Kept) (so_far : HasKept told_files name limit I old kept) where
    pub ends_whole : (claim : Claim) → IsValid I → Steps told_files name I old new (Ok (Whole claim)) → IsFinished told_files name I claim kept
    ends_whole claim valid steps = finished so_far.seen claim kept valid so_far.has (steps limit so_far.seen so_far.behind)

    pub fault_comes : (fault : CertFault) → Steps told_files name I old new (Err fault) → Comes told_files name limit I (Err fault)
    fault_comes fault steps = comes_fault so_far.seen fault (steps limit so_far.seen so_far.behind)

    -- a line more is kept
    pub kept_on : (next : Kept) (number : ℕ) (shown : CodeShown) → Steps told_files name I old new (Ok (Line number shown)) → next ≡ kept_with kept (shown_of shown) → HasKept told_files name limit I new next
    kept_on next number shown steps keeps =
        seen_more told_files name limit I (λ seen. kept ≡ kept_all (nothing_kept I) seen) (λ seen. next ≡ kept_all (nothing_kept I) seen) old new so_far number shown steps
        (kept_more I kept next so_far.seen (shown_of shown) so_far.has keeps)

    pub kept_fits : (shown : Shown) → IsSound I shown → FitsOn kept.nodes shown
    kept_fits shown sound = shown_fits I kept so_far.seen shown so_far.has sound

    pub kept_few : length kept.nodes.entries + 1 < 2 ^ 32
    kept_few = omega (arith, (grows I kept so_far.seen so_far.has).few, so_far.behind.line, so_far.behind.ready.few)

  -- what the answer says
  pub of_text : (r : Result Held CertFault) → Comes told_files name limit I r → IfOk r (λ held. HasFile told_files name (λ bytes. bytes ≡ certificate_text I (certificate_of held)))
  of_text (Ok held) comes = comes.1
  of_text (Err fault) comes = tt

  pub has_text : (r : Result Held CertFault) → Comes told_files name limit I r → IfOk r (λ held. HasText I (certificate_of held))
  has_text (Ok held) comes = comes.0
  has_text (Err fault) comes = tt

  -- a fault of the text is read where the file is told
  of_decided : (r : Result Held CertFault) (fault : CertFault) → Comes told_files name limit I r → (IsUnread fault → ⊥) → r ≡ Err fault → HasFile told_files name (λ bytes. (transcript_within limit I bytes).end ≡ Err fault)
  of_decided r fault comes read is =
      let says : Comes told_files name limit I (Err fault) = subst (Comes told_files name limit I) is comes in
      elim says [
        | inl unread ↦ absurd (read unread)
        | inr has ↦ has
      ]

  pub of_fault : (r : Result Held CertFault) → Comes told_files name limit I r → (kind : CertKind) (line : ℕ) → r ≡ Err (Text kind line) → HasFile told_files name (λ bytes. HasFault limit I bytes kind line)
  of_fault r comes kind line = of_decided r (Text kind line) comes (text_is_read kind line)

  pub of_too_long : (r : Result Held CertFault) → Comes told_files name limit I r → IsErrOf r TooLong → HasFile told_files name (PassesLimit limit I)
  of_too_long r comes = of_decided r TooLong comes too_long_is_read

-- The answer where the checker stops, from what its reader says.
use Rattle.std.proofs.Common.{◌≡◌, ◌⊎◌, ℕ, ◌+◌, ◌≤◌, List, [], ◌∷◌, ◌++◌, length, refl, sym, ap, ◌∙◌, subst, inl, inr, arith, append-nil, length-append, Ok, Err}
use Rattle.std.specs.Prelude.{All, Option, None, Some}
use Rattle.std.proofs.lemmas.List.{append_assoc}
use Rattle.std.proofs.lemmas.List.Elements.{All-nil, All-cons, All-append}
use Rattle.shelf_port.specs.Files.{Files, MayHold}
use Rattle.shelf_lines.specs.Rest.{TellsFile}
use Rattle.location_terms.specs.declared.claim.Claim.{Claim}
use Rattle.location_terms.specs.Instance.{Instance, IsValid}
use Rattle.location_terms.specs.Plan.{Plan}
use Rattle.location_terms.specs.Optimal.{ClaimHolds}
use Rattle.location_terms.specs.Certificate.{Certificate, IsAccepted}
use Rattle.certificate_lines.specs.declared.fault.CertFault.{CertFault}
use Rattle.certificate_lines.specs.declared.line.Shown.{Shown as CodeShown}
use Rattle.certificate_lines.specs.Model.{shown_of}
use Rattle.certificate_lines.specs.Follow.{HasSmallCosts}
use Rattle.certificate_lines.specs.Text.{certificate_text}
use Rattle.certificate_reader.specs.declared.reader.CertReader.{CertReader}
use Rattle.certificate_reader.specs.declared.reader.Seen.TheVariants.{Line, Whole}
use Rattle.certificate_reader.specs.Behind as reader
use Rattle.certificate_reader.specs.Behind.{MayRead, FailsWith, Steps}
use Rattle.certificate_reader.specs.Transcript.{Transcript, ends, behind, transcript_within}
use Rattle.certificate_reader.proofs.Passing.{HasSeen, seen_more, goes_somehow}
use Rattle.certificate_check.specs.declared.verdict.Verdict.TheVariants.{Yes}
use Rattle.certificate_check.specs.Judgement.{Stands}
use Rattle.certificate_check.specs.Verdict.{Answer, IsRefusal, IsJudged, IsAnswerTo, IsAnswer, IsUnread}
use Rattle.certificate_check.proofs.Standing.{stands_before}
use Rattle.certificate_check.proofs.Judged.{parts}
use Rattle.certificate_check.proofs.Meaning.{yes_means_within, yes_holds_within, accepted_yes_within}
use Rattle.certificate_check.proofs.One.{one_answer}

-- the named file may hold bytes of which this is the answer
abbrev pub IsAnswered : Option Files → List ℕ → ℕ → Instance → Answer → Type 0
IsAnswered told name limit I answer = (bytes : List ℕ) × MayHold told name bytes × IsAnswer limit I bytes answer

-- a reader stands behind lines that show what stands
abbrev pub HasStood : Option Files → List ℕ → ℕ → Instance → CertReader → Type 0
HasStood told name limit I = HasSeen told name limit I (All (Stands I))

module _ (told : Option Files) (name : List ℕ) (limit : ℕ) (I : Instance) (old new : CertReader) (stood : HasStood told name limit I old) where
  answered : (P : Transcript → Type 0) (answer : Answer) → ((read : Transcript) → P read → IsAnswerTo I read answer) → MayRead told name limit I P → IsAnswered told name limit I answer
  answered P answer so may = (may.0, may.1, so (transcript_within limit I may.0) may.2)

  -- the text is whole
  pub answers_yes : (claim : Claim) → Steps told name I old new (Ok (Whole claim)) → IsUnread (Ok (Yes claim)) ⊎ IsAnswered told name limit I (Ok (Yes claim))
  answers_yes claim steps =
      inr (answered (λ read. read ≡ behind stood.seen (ends (Ok claim))) (Ok (Yes claim))
      (λ read is. subst (λ r. IsAnswerTo I r (Ok (Yes claim))) (sym is) (stands_before I 1 (1 + length stood.seen) stood.seen [] (Ok claim) (Ok (Yes claim)) stood.has refl refl))
      (steps limit stood.seen stood.behind))

  -- the text has a fault, or is too long
  judged_fault : (fault : CertFault) (read : Transcript) → FailsWith stood.seen fault read → IsAnswerTo I read (Err fault)
  judged_fault fault read fails =
      subst (λ end. IsJudged I 1 read.shown end (Err fault)) (sym fails.end)
      (subst (λ shown. IsJudged I 1 shown (Err fault) (Err fault)) (append-nil read.shown)
      (stands_before I 1 (1 + length read.shown) read.shown [] (Err fault) (Err fault) (parts (Stands I) read.shown fails.more (subst (All (Stands I)) (sym fails.seen_is) stood.has)).0 refl refl))

  by_reason : (fault : CertFault) → reader.IsUnread fault ⊎ MayRead told name limit I (FailsWith stood.seen fault) → IsUnread (Err fault) ⊎ IsAnswered told name limit I (Err fault)
  by_reason fault (inl (inl failed)) = inl (inl (ap Err failed))
  by_reason fault (inl (inr none)) = inl (inr (ap Err none))
  by_reason fault (inr may) = inr (answered (FailsWith stood.seen fault) (Err fault) (judged_fault fault) may)

  pub answers_fault : (fault : CertFault) → Steps told name I old new (Err fault) → IsUnread (Err fault) ⊎ IsAnswered told name limit I (Err fault)
  answers_fault fault steps = by_reason fault (steps limit stood.seen stood.behind)

  -- a line shows what stands
  pub stood_more : (number : ℕ) (shown : CodeShown) → Steps told name I old new (Ok (Line number shown)) → Stands I (shown_of shown) → HasStood told name limit I new
  stood_more number shown steps stands = seen_more told name limit I (All (Stands I)) (All (Stands I)) old new stood number shown steps (All-append (Stands I) stood.seen (shown_of shown ∷ []) stood.has (All-cons (Stands I) (shown_of shown) [] stands (All-nil (Stands I))))

  -- something speaks against what a line shows
  pub answers_no : (number : ℕ) (shown : CodeShown) (answer : Answer) → Steps told name I old new (Ok (Line number shown)) → number ≡ old.line → IsRefusal I (shown_of shown) number answer → IsUnread answer ⊎ IsAnswered told name limit I answer
  answers_no number shown answer steps counts refusal =
      let seen = stood.seen ++ shown_of shown ∷ [] in
      inr (answered (λ read. (rest : Transcript) × (read ≡ behind seen rest)) answer
      (λ read goes. subst (λ r. IsAnswerTo I r answer) (sym goes.1)
      (subst (λ xs. IsJudged I 1 xs goes.0.end answer) (sym (append_assoc stood.seen (shown_of shown ∷ []) goes.0.shown))
      (stands_before I 1 number stood.seen (shown_of shown ∷ goes.0.shown) goes.0.end answer stood.has (omega (arith, counts, stood.behind.line)) (inl refusal))))
      (goes_somehow told name limit I seen new (steps limit stood.seen stood.behind) (omega (arith, length-append stood.seen (shown_of shown ∷ [])))))

-- a file that is told holds the bytes that are told
told_bytes : (told : Option Files) (name bytes text : List ℕ) → MayHold told name bytes → TellsFile told name text → bytes ≡ text
told_bytes None name bytes text may is = absurd is
told_bytes (Some files) name bytes text may is = let same : Some bytes ≡ Some text = sym may ∙ is in cc

-- a yes is no want of a read or of memory
yes_is_read : (claim : Claim) → IsUnread (Ok (Yes claim)) → ⊥
yes_is_read claim (inl failed) = cc
yes_is_read claim (inr none) = cc

module _ (told : Option Files) (name : List ℕ) (limit : ℕ) (I : Instance) (answer : Answer) (valid : IsValid I) (says : IsUnread answer ⊎ IsAnswered told name limit I answer) where
  -- the bytes of an answer of yes
  yes_bytes : (claim : Claim) → answer ≡ Ok (Yes claim) → IsAnswered told name limit I (Ok (Yes claim))
  yes_bytes claim is =
      elim says [
        | inl none ↦ absurd (yes_is_read claim (subst (λ (a : Answer). IsUnread a) is none))
        | inr some ↦ subst (λ (a : Answer). IsAnswered told name limit I a) is some
      ]

  -- they are the text of an accepted certificate
  pub yes_text : (claim : Claim) → answer ≡ Ok (Yes claim)
      → (cert : Certificate) × MayHold told name (certificate_text I cert) × IsAccepted I cert × (cert.claim ≡ claim) × HasSmallCosts claim × (length (certificate_text I cert) ≤ limit)
  yes_text claim is =
      let some = yes_bytes claim is in
      let means = yes_means_within limit I some.0 claim valid some.2 in
      (means.0, subst (MayHold told name) means.1 some.1, means.2, means.3, means.4, subst (λ (bytes : List ℕ). length bytes ≤ limit) means.1 means.5)

  -- and the claim holds
  pub yes_claim : (claim : Claim) → answer ≡ Ok (Yes claim) → (plan : Option Plan) × ClaimHolds I claim plan
  yes_claim claim is = let some = yes_bytes claim is in yes_holds_within limit I some.0 claim valid some.2

  -- the text of an accepted certificate is answered with yes
  pub text_yes : (cert : Certificate) → IsAccepted I cert → HasSmallCosts cert.claim → length (certificate_text I cert) ≤ limit → TellsFile told name (certificate_text I cert) → IsUnread answer ⊎ (answer ≡ Ok (Yes cert.claim))
  text_yes cert accepted small within is =
      elim says [
        | inl none ↦ inl none
        | inr some ↦ inr (one_answer limit I (certificate_text I cert) answer (Ok (Yes cert.claim)) (subst (λ (bytes : List ℕ). IsAnswer limit I bytes answer) (told_bytes told name some.0 (certificate_text I cert) some.1 is) some.2) (accepted_yes_within limit I cert valid accepted small within))
      ]

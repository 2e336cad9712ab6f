-- Certificates with one text are the same, and the text of a certificate has no fault of form.
use Rattle.std.proofs.Common.{◌≡◌, ℕ, ◌≤◌, length, sym, ap, ◌∙◌, append-nil, false, Ok, Err}
use Rattle.std.specs.Prelude.{flat_map, Result}
use Rattle.location_terms.specs.declared.claim.Claim.{Claim}
use Rattle.location_terms.specs.Instance.{Instance, IsValid}
use Rattle.location_terms.specs.Certificate.{Certificate}
use Rattle.certificate_lines.specs.declared.fault.CertFault.{CertFault}
use Rattle.certificate_lines.specs.declared.fault.CertFault.TheVariants.{Text}
use Rattle.certificate_lines.specs.declared.kind.CertKind.{CertKind}
use Rattle.certificate_lines.specs.Text.{certificate_text}
use Rattle.certificate_lines.specs.Follow.{shown_list, HasText, shown_by}
use Rattle.certificate_reader.specs.Transcript.{Transcript, ends, behind, transcript_of, transcript_within}
use Rattle.certificate_reader.proofs.Meaning.{text_shown, within_limit}
use Rattle.certificate_text.specs.Form.{HasFault}
use Rattle.certificate_text.specs.Read.{nothing_kept, kept_all, certificate_from}
use Rattle.certificate_text.proofs.Keeping.{certificate_kept}

one_claim : (a b : Claim) → ◌≡◌ {A = Result Claim CertFault} (Ok a) (Ok b) → a ≡ b
one_claim a b e = cc

pub alike : (I : Instance) (a b : Certificate) → IsValid I → HasText I a → HasText I b → certificate_text I a ≡ certificate_text I b → a ≡ b
alike I a b valid has_a has_b same =
    let of_a = text_shown I a valid has_a in
    let of_b = text_shown I b valid has_b in
    let reads : behind of_a.0 (ends (Ok a.claim)) ≡ behind of_b.0 (ends (Ok b.claim)) = sym of_a.1 ∙ ap (transcript_of false I) same ∙ of_b.1 in
    let claims : a.claim ≡ b.claim = one_claim a.claim b.claim (ap (λ (t : Transcript). t.end) reads) in
    let shown : of_a.0 ≡ of_b.0 = sym (append-nil of_a.0) ∙ ap (λ (t : Transcript). t.shown) reads ∙ append-nil of_b.0 in
    sym (certificate_kept I a has_a)
    ∙ ap (λ claim. certificate_from claim (kept_all (nothing_kept I) (shown_by a))) claims
    ∙ ap (λ all. certificate_from b.claim (kept_all (nothing_kept I) all)) (sym of_a.2 ∙ ap (flat_map shown_list) shown ∙ of_b.2)
    ∙ certificate_kept I b has_b

unlike : (claim : Claim) (fault : CertFault) → Ok claim ≡ Err fault → ⊥
unlike claim fault e = cc

pub no_fault : (I : Instance) (cert : Certificate) (limit : ℕ) (fault : CertFault) → IsValid I → HasText I cert → length (certificate_text I cert) ≤ limit → (transcript_within limit I (certificate_text I cert)).end ≡ Err fault → ⊥
no_fault I cert limit fault valid has within is =
    unlike cert.claim fault (sym (ap (λ (t : Transcript). t.end) (within_limit limit I (certificate_text I cert) within ∙ (text_shown I cert valid has).1)) ∙ is)

pub faultless : (I : Instance) (cert : Certificate) (limit : ℕ) (kind : CertKind) (line : ℕ) → IsValid I → HasText I cert → length (certificate_text I cert) ≤ limit → HasFault limit I (certificate_text I cert) kind line → ⊥
faultless I cert limit kind line = no_fault I cert limit (Text kind line)

-- A yes says that the bytes are the text of an accepted certificate; and of such a text the verdict is yes.
use Rattle.std.proofs.Common.{◌≡◌, ℕ, ◌+◌, ◌≤◌, false, List, [], length, refl, sym, subst, Ok, Option}
use Rattle.std.specs.Prelude.{All}
use Rattle.location_terms.specs.declared.claim.Claim.{Claim}
use Rattle.location_terms.specs.Instance.{Instance, IsValid}
use Rattle.location_terms.specs.Plan.{Plan}
use Rattle.location_terms.specs.Optimal.{ClaimHolds}
use Rattle.location_terms.specs.Certificate.{Certificate, IsAccepted}
use Rattle.location_terms.proofs.Claims.{claim_holds}
use Rattle.certificate_lines.specs.Text.{certificate_text}
use Rattle.certificate_lines.specs.Follow.{HasSmallCosts}
use Rattle.certificate_reader.specs.Transcript.{transcript_of, transcript_within}
use Rattle.certificate_reader.proofs.Meaning.{whole_text, text_shown, within_limit, whole_within}
use Rattle.certificate_check.specs.declared.verdict.Verdict.TheVariants.{Yes}
use Rattle.certificate_check.specs.Judgement.{Stands}
use Rattle.certificate_check.specs.Verdict.{IsAnswerTo, IsVerdict, IsAnswer}
use Rattle.certificate_check.proofs.Standing.{all_told, told_all, stands_before, yes_stands}
use Rattle.certificate_check.proofs.Judged.{accepted_from, accepted_stands, has_text}

yes_shows : (I : Instance) (bytes : List ℕ) (claim : Claim) → IsValid I → IsVerdict I bytes (Ok (Yes claim)) → (cert : Certificate) × (bytes ≡ certificate_text I cert) × IsAccepted I cert × (cert.claim ≡ claim) × HasSmallCosts claim
yes_shows I bytes claim valid verdict =
    let read = transcript_of false I bytes in
    let yes = yes_stands I 1 read.shown read.end claim verdict in
    let text = whole_text I bytes claim valid yes.1 in
    (text.0, text.1, accepted_from I text.0 text.2 (subst (All (Stands I)) text.4 (all_told I read.shown yes.0)), text.3, subst HasSmallCosts text.3 text.2.costs)

pub yes_means : (I : Instance) (bytes : List ℕ) (claim : Claim) → IsValid I → IsVerdict I bytes (Ok (Yes claim)) → (cert : Certificate) × (bytes ≡ certificate_text I cert) × IsAccepted I cert × (cert.claim ≡ claim)
yes_means I bytes claim valid verdict = let shows = yes_shows I bytes claim valid verdict in (shows.0, shows.1, shows.2, shows.3)

-- a yes within a limit is a yes to the whole, which lies within it
yes_ends : (limit : ℕ) (I : Instance) (bytes : List ℕ) (claim : Claim) → IsAnswer limit I bytes (Ok (Yes claim)) → length bytes ≤ limit
yes_ends limit I bytes claim answer =
    let read = transcript_within limit I bytes in
    whole_within limit I bytes claim (yes_stands I 1 read.shown read.end claim answer).1

yes_within : (limit : ℕ) (I : Instance) (bytes : List ℕ) (claim : Claim) → IsAnswer limit I bytes (Ok (Yes claim)) → IsVerdict I bytes (Ok (Yes claim))
yes_within limit I bytes claim answer = subst (λ read. IsAnswerTo I read (Ok (Yes claim))) (within_limit limit I bytes (yes_ends limit I bytes claim answer)) answer

pub yes_means_within : (limit : ℕ) (I : Instance) (bytes : List ℕ) (claim : Claim) → IsValid I → IsAnswer limit I bytes (Ok (Yes claim))
    → (cert : Certificate) × (bytes ≡ certificate_text I cert) × IsAccepted I cert × (cert.claim ≡ claim) × HasSmallCosts claim × (length bytes ≤ limit)
yes_means_within limit I bytes claim valid answer =
    let shows = yes_shows I bytes claim valid (yes_within limit I bytes claim answer) in
    (shows.0, shows.1, shows.2, shows.3, shows.4, yes_ends limit I bytes claim answer)

pub yes_holds : (I : Instance) (bytes : List ℕ) (claim : Claim) → IsValid I → IsVerdict I bytes (Ok (Yes claim)) → (plan : Option Plan) × ClaimHolds I claim plan
yes_holds I bytes claim valid verdict =
    let means = yes_means I bytes claim valid verdict in
    let cert = means.0 in
    (cert.plan, subst (λ c. ClaimHolds I c cert.plan) means.3 (claim_holds I valid cert.claim cert.plan cert.tree means.2.shows))

pub yes_holds_within : (limit : ℕ) (I : Instance) (bytes : List ℕ) (claim : Claim) → IsValid I → IsAnswer limit I bytes (Ok (Yes claim)) → (plan : Option Plan) × ClaimHolds I claim plan
yes_holds_within limit I bytes claim valid answer = yes_holds I bytes claim valid (yes_within limit I bytes claim answer)

pub accepted_yes : (I : Instance) (cert : Certificate) → IsValid I → IsAccepted I cert → HasSmallCosts cert.claim → IsVerdict I (certificate_text I cert) (Ok (Yes cert.claim))
accepted_yes I cert valid accepted small =
    let text = text_shown I cert valid (has_text I cert accepted small) in
    let stand = told_all I text.0 (subst (All (Stands I)) (sym text.2) (accepted_stands I cert accepted)) in
    subst (λ read. IsAnswerTo I read (Ok (Yes cert.claim))) (sym text.1) (stands_before I 1 (1 + length text.0) text.0 [] (Ok cert.claim) (Ok (Yes cert.claim)) stand refl refl)

pub accepted_yes_within : (limit : ℕ) (I : Instance) (cert : Certificate) → IsValid I → IsAccepted I cert → HasSmallCosts cert.claim → length (certificate_text I cert) ≤ limit → IsAnswer limit I (certificate_text I cert) (Ok (Yes cert.claim))
accepted_yes_within limit I cert valid accepted small within = subst (λ read. IsAnswerTo I read (Ok (Yes cert.claim))) (sym (within_limit limit I (certificate_text I cert) within)) (accepted_yes I cert valid accepted small)

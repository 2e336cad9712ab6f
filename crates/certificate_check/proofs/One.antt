-- A text has just one verdict: one part of feasibility is the first that fails, and one thing speaks against what is shown.
use Rattle.std.proofs.Common.{◌≡◌, ℕ, ◌+◌, List, [], ◌∷◌, refl, sym, ap, ◌∙◌, false, Result, inl, inr, Ok}
use Rattle.location_terms.specs.declared.claim.Claim.{Claim}
use Rattle.location_terms.specs.Instance.{Instance}
use Rattle.location_terms.specs.Plan.{Plan}
use Rattle.plan_meaning.specs.declared.fault.PlanFault.{PlanFault}
use Rattle.plan_meaning.specs.declared.fault.PlanFault.TheVariants.{UnknownSite, NotEachCustomerOnce, ServedByClosed, NoLane, OverCapacity, SiteCount, StatusBroken}
use Rattle.plan_meaning.specs.PlanFault.{IsFirstFault}
use Rattle.certificate_lines.specs.declared.fault.CertFault.{CertFault}
use Rattle.certificate_lines.specs.Due.{Shown, PlanShown, LeafShown}
use Rattle.certificate_reader.specs.Transcript.{transcript_of, transcript_within}
use Rattle.certificate_check.specs.declared.verdict.Why.{Why}
use Rattle.certificate_check.specs.declared.verdict.Why.TheVariants.{PlanRefused, CostDiffers, LeafOpen}
use Rattle.certificate_check.specs.declared.verdict.Verdict.TheVariants.{No}
use Rattle.certificate_check.specs.Judgement.{IsAgainst}
use Rattle.certificate_check.specs.Verdict.{Answer, line_of, IsJudged, IsVerdict, IsAnswer}
use Rattle.certificate_check.proofs.Standing.{no_fault, none_against}

-- where two faults are named, the part of the earlier one fails and holds
one_fault : (I : Instance) (P : Plan) (a b : PlanFault) → IsFirstFault I P a → IsFirstFault I P b → a ≡ b
one_fault I P UnknownSite UnknownSite is_a is_b = refl
one_fault I P UnknownSite b is_a is_b = absurd (is_a is_b.0)
one_fault I P a UnknownSite is_a is_b = absurd (is_b is_a.0)
one_fault I P NotEachCustomerOnce NotEachCustomerOnce is_a is_b = refl
one_fault I P NotEachCustomerOnce b is_a is_b = absurd (is_a.1 is_b.1)
one_fault I P a NotEachCustomerOnce is_a is_b = absurd (is_b.1 is_a.1)
one_fault I P ServedByClosed ServedByClosed is_a is_b = refl
one_fault I P ServedByClosed b is_a is_b = absurd (is_a.2 is_b.2)
one_fault I P a ServedByClosed is_a is_b = absurd (is_b.2 is_a.2)
one_fault I P NoLane NoLane is_a is_b = refl
one_fault I P NoLane b is_a is_b = absurd (is_a.3 is_b.3)
one_fault I P a NoLane is_a is_b = absurd (is_b.3 is_a.3)
one_fault I P OverCapacity OverCapacity is_a is_b = refl
one_fault I P OverCapacity b is_a is_b = absurd (is_a.4 is_b.4)
one_fault I P a OverCapacity is_a is_b = absurd (is_b.4 is_a.4)
one_fault I P SiteCount SiteCount is_a is_b = refl
one_fault I P SiteCount b is_a is_b = absurd (is_a.5 is_b.5)
one_fault I P a SiteCount is_a is_b = absurd (is_b.5 is_a.5)
one_fault I P StatusBroken StatusBroken is_a is_b = refl

one_reason : (I : Instance) (shown : Shown) (a b : Why) → IsAgainst I shown a → IsAgainst I shown b → a ≡ b
one_reason I (PlanShown claim P) (PlanRefused f) (PlanRefused g) is_a is_b = ap PlanRefused (one_fault I P f g is_a is_b)
one_reason I (PlanShown claim P) (PlanRefused f) (CostDiffers found) is_a is_b = absurd (no_fault I P f is_b.0 is_a)
one_reason I (PlanShown claim P) (CostDiffers found) (PlanRefused g) is_a is_b = absurd (no_fault I P g is_a.0 is_b)
one_reason I (PlanShown claim P) (CostDiffers x) (CostDiffers y) is_a is_b = ap CostDiffers (sym is_a.1 ∙ is_b.1)
one_reason I (LeafShown claim path d) (LeafOpen x p) (LeafOpen y q) is_a is_b = ap (λ bound. LeafOpen bound p) (is_a.0 ∙ sym is_b.0) ∙ ap (λ scale. LeafOpen y scale) (is_a.1 ∙ sym is_b.1)
one_reason I (PlanShown claim P) a (LeafOpen y q) is_a is_b = absurd is_b
one_reason I (LeafShown claim path d) (LeafOpen x p) b is_a is_b = absurd is_b
one_reason I shown a b is_a is_b = absurd is_a

-- what is shown has one answer
one_judged : (I : Instance) (n : ℕ) (shown : List Shown) (end : Result Claim CertFault) (a b : Answer) → IsJudged I n shown end a → IsJudged I n shown end b → a ≡ b
one_judged I n [] end a b is_a is_b = is_a ∙ sym is_b
one_judged I n (s ∷ shown) end a b (inl x) (inl y) = x.2 ∙ ap (λ why. Ok (No (line_of s n) why)) (one_reason I s x.0 y.0 x.1 y.1) ∙ sym y.2
one_judged I n (s ∷ shown) end a b (inl x) (inr y) = absurd (none_against I s x.0 y.0 x.1)
one_judged I n (s ∷ shown) end a b (inr x) (inl y) = absurd (none_against I s y.0 x.0 y.1)
one_judged I n (s ∷ shown) end a b (inr x) (inr y) = one_judged I (n + 1) shown end a b x.1 y.1

pub one_verdict : (I : Instance) (bytes : List ℕ) (a b : Answer) → IsVerdict I bytes a → IsVerdict I bytes b → a ≡ b
one_verdict I bytes = let read = transcript_of false I bytes in one_judged I 1 read.shown read.end

pub one_answer : (limit : ℕ) (I : Instance) (bytes : List ℕ) (a b : Answer) → IsAnswer limit I bytes a → IsAnswer limit I bytes b → a ≡ b
one_answer limit I bytes = let read = transcript_within limit I bytes in one_judged I 1 read.shown read.end

-- What is judged of what lines show: the first thing that doesn't stand decides.
use Rattle.std.proofs.Common.{◌≡◌, ℕ, ◌+◌, length, List, [], ◌∷◌, ◌++◌, sym, ap, ◌∙◌, subst, arith, Result, Ok, Err, Some, inl, inr}
use Rattle.std.specs.Prelude.{All, flat_map}
use Rattle.std.proofs.lemmas.List.Elements.{All-nil, All-cons, All-head, All-tail, All-append}
use Rattle.location_terms.specs.declared.claim.Claim.{Claim}
use Rattle.location_terms.specs.Instance.{Instance}
use Rattle.location_terms.specs.Plan.{Plan, IsFeasible}
use Rattle.location_terms.specs.Fit.{BoundCloses}
use Rattle.location_terms.specs.Leaf.{leaf_bound}
use Rattle.location_terms.specs.Certificate.{target_of}
use Rattle.plan_meaning.specs.declared.fault.PlanFault.{PlanFault}
use Rattle.plan_meaning.specs.declared.fault.PlanFault.TheVariants.{UnknownSite, NotEachCustomerOnce, ServedByClosed, NoLane, OverCapacity, SiteCount, StatusBroken}
use Rattle.plan_meaning.specs.PlanFault.{IsFirstFault}
use Rattle.certificate_lines.specs.declared.fault.CertFault.{CertFault}
use Rattle.certificate_lines.specs.Due.{Shown, NothingShown, PlanShown, LeafShown}
use Rattle.certificate_lines.specs.Follow.{shown_list}
use Rattle.certificate_check.specs.declared.verdict.Why.{Why}
use Rattle.certificate_check.specs.declared.verdict.Why.TheVariants.{PlanRefused, CostDiffers, LeafOpen}
use Rattle.certificate_check.specs.declared.verdict.Verdict.TheVariants.{Yes}
use Rattle.certificate_check.specs.Judgement.{IsAgainst, Stands}
use Rattle.certificate_check.specs.Verdict.{Answer, at_end, IsJudged}
use Rattle.certificate_check.proofs.Judged.{parts}

-- what is shown_list of a line stands where what it shows does
stands_told : (I : Instance) (shown : Shown) → Stands I shown → All (Stands I) (shown_list shown)
stands_told I NothingShown stands = All-nil (Stands I)
stands_told I shown stands = All-cons (Stands I) shown [] stands (All-nil (Stands I))

told_stands : (I : Instance) (shown : Shown) → All (Stands I) (shown_list shown) → Stands I shown
told_stands I NothingShown stand = tt
told_stands I shown stand = All-head (Stands I) shown [] stand

pub all_told : (I : Instance) (shown : List Shown) → All (Stands I) shown → All (Stands I) (flat_map shown_list shown)
all_told I [] stand = All-nil (Stands I)
all_told I (s ∷ shown) stand = All-append (Stands I) (shown_list s) (flat_map shown_list shown) (stands_told I s (All-head (Stands I) s shown stand)) (all_told I shown (All-tail (Stands I) s shown stand))

pub told_all : (I : Instance) (shown : List Shown) → All (Stands I) (flat_map shown_list shown) → All (Stands I) shown
told_all I [] stand = All-nil (Stands I)
told_all I (s ∷ shown) stand =
    let both = parts (Stands I) (shown_list s) (flat_map shown_list shown) stand in
    All-cons (Stands I) s shown (told_stands I s both.0) (told_all I shown both.1)

-- no part of a feasible plan's feasibility fails
pub no_fault : (I : Instance) (P : Plan) (fault : PlanFault) → IsFeasible I P → IsFirstFault I P fault → ⊥
no_fault I P UnknownSite feasible first = first feasible.sites_known
no_fault I P NotEachCustomerOnce feasible first = first.1 feasible.each_once
no_fault I P ServedByClosed feasible first = first.2 feasible.by_open
no_fault I P NoLane feasible first = first.3 feasible.by_lane
no_fault I P OverCapacity feasible first = first.4 feasible.within_cap
no_fault I P SiteCount feasible first = first.5 (feasible.at_least, feasible.at_most)
no_fault I P StatusBroken feasible first = first.6 feasible.statuses

-- nothing speaks against what stands
pub none_against : (I : Instance) (shown : Shown) (why : Why) → Stands I shown → IsAgainst I shown why → ⊥
none_against I (PlanShown claim P) (PlanRefused fault) stands against = no_fault I P fault stands.0 against
none_against I (PlanShown claim P) (CostDiffers found) stands against = against.2 (ap Some (sym against.1) ∙ stands.1)
none_against I (LeafShown claim path d) (LeafOpen bound q) stands against = against.2 (subst (λ b. BoundCloses b q (target_of claim)) (sym against.0) (subst (λ k. BoundCloses (leaf_bound I path d) k (target_of claim)) (sym against.1) stands))
none_against I shown why stands against = against

-- behind what stands, what follows decides
pub stands_before : (I : Instance) (n m : ℕ) (shown more : List Shown) (end : Result Claim CertFault) (answer : Answer) → All (Stands I) shown → n + length shown ≡ m → IsJudged I m more end answer → IsJudged I n (shown ++ more) end answer
stands_before I n m [] more end answer stand counts judged =
    let same : m ≡ n = omega (arith, counts) in
    subst (λ k. IsJudged I k more end answer) same judged
stands_before I n m (s ∷ shown) more end answer stand counts judged =
    inr (All-head (Stands I) s shown stand, stands_before I (n + 1) m shown more end answer (All-tail (Stands I) s shown stand) (omega (arith, counts)) judged)

-- a yes comes only where all stands and the end is a claim
claimed : (end : Result Claim CertFault) (claim : Claim) → Ok (Yes claim) ≡ at_end end → end ≡ Ok claim
claimed (Ok other) claim is = cc
claimed (Err fault) claim is = absurd (cc)

pub yes_stands : (I : Instance) (n : ℕ) (shown : List Shown) (end : Result Claim CertFault) (claim : Claim) → IsJudged I n shown end (Ok (Yes claim)) → All (Stands I) shown × (end ≡ Ok claim)
yes_stands I n [] end claim judged = (All-nil (Stands I), claimed end claim judged)
yes_stands I n (s ∷ shown) end claim (inl against) = let e = against.2 in absurd (cc)
yes_stands I n (s ∷ shown) end claim (inr on) =
    let later = yes_stands I (n + 1) shown end claim on.1 in
    (All-cons (Stands I) s shown on.0 later.0, later.1)

-- Which status a range has, by what the checker answers to its certificate.
use Rattle.std.proofs.Common.{◌≡◌, ◌⊎◌, ℕ, ◌<◌, ◌≤◌, List, length, Option, None, Some, Ok, Err, sym, refl, ap, ◌∙◌, subst, inl, inr, arith}
use Rattle.std.specs.Prelude.{IsSome, IsNone}
use Rattle.location_terms.specs.Instance.{Instance, IsValid, site_ids, lane}
use Rattle.std.proofs.lemmas.Bool.{false≢true}
use Rattle.location_terms.proofs.Membership.{has_or_lacks}
use Rattle.location_terms.specs.declared.claim.Claim.{Claim}
use Rattle.location_terms.specs.declared.claim.Claim.TheVariants as claimed
use Rattle.certificate_lines.specs.declared.limits.TheConstants.{MAX_CERTIFICATE_BYTES}
use Rattle.certificate_lines.specs.declared.fault.CertFault.TheVariants.{Text, TooLong, ReadFailed}
use Rattle.certificate_lines.specs.declared.fault.CertFault.TheVariants as unread
use Rattle.certificate_check.specs.declared.verdict.Verdict.TheVariants.{Yes, No}
use Rattle.certificate_check.specs.Verdict.{Answer, IsAnswer}
use Rattle.certificate_check.proofs.One.{one_answer}
use Rattle.range_scan.specs.declared.refusal.RangeRefusal.TheVariants as lacking
use Rattle.dualoc_cli.specs.declared.status.Status.{Status}
use Rattle.dualoc_cli.specs.declared.status.Status.TheVariants.{Done, CheckNo, ReadFault, TooLarge, NoMemory, Refused}
use Rattle.dualoc_cli.specs.declared.words.CostAt.{CostAt}
use Rattle.dualoc_cli.specs.declared.words.CostAt.TheVariants.{Site, Lane}
use Rattle.dualoc_cli.specs.Range.{HasCost, LacksCost, ClaimsOptimum}

-- the status of an answer to a certificate
unfoldable pub status_in : Answer → Status
status_in (Ok (Yes claim)) = Done
status_in (Ok (No line why)) = CheckNo
status_in (Err (Text kind line)) = CheckNo
status_in (Err TooLong) = TooLarge
status_in (Err ReadFailed) = ReadFault
status_in (Err unread.NoMemory) = NoMemory

-- the status of a range by what the checker answers
abbrev pub RangeStatus : Instance → CostAt → Answer → Status → Type 0
RangeStatus I at (Ok (Yes (claimed.Optimal cost))) status = (HasCost I at × (status ≡ Done)) ⊎ ((HasCost I at → ⊥) × (status ≡ Refused))
RangeStatus I at (Ok (Yes claimed.Infeasible)) status = status ≡ CheckNo
RangeStatus I at (Ok (Yes (claimed.Bracket low high))) status = status ≡ CheckNo
RangeStatus I at (Ok (No line why)) status = status ≡ CheckNo
RangeStatus I at (Err (Text kind line)) status = status ≡ CheckNo
RangeStatus I at (Err fault) status = status ≡ status_in (Err fault)

-- the status of a range by what the certificate's file holds
abbrev pub RangeDue : Instance → CostAt → List ℕ → (Status → Type 0) → Type 0
RangeDue I at bytes is =
    ((MAX_CERTIFICATE_BYTES < length bytes) × is TooLarge)
    ⊎ ((length bytes ≤ MAX_CERTIFICATE_BYTES) × ((answer : Answer) × IsAnswer MAX_CERTIFICATE_BYTES I bytes answer × ((status : Status) × RangeStatus I at answer status × is status)))

pub range_status_once : (I : Instance) (at : CostAt) (answer : Answer) (s t : Status) → RangeStatus I at answer s → RangeStatus I at answer t → s ≡ t
range_status_once I at (Ok (Yes (claimed.Optimal cost))) s t (inl p) (inl q) = p.1 ∙ sym q.1
range_status_once I at (Ok (Yes (claimed.Optimal cost))) s t (inl p) (inr q) = absurd (q.0 p.0)
range_status_once I at (Ok (Yes (claimed.Optimal cost))) s t (inr p) (inl q) = absurd (p.0 q.0)
range_status_once I at (Ok (Yes (claimed.Optimal cost))) s t (inr p) (inr q) = p.1 ∙ sym q.1
range_status_once I at (Ok (Yes claimed.Infeasible)) s t p q = p ∙ sym q
range_status_once I at (Ok (Yes (claimed.Bracket low high))) s t p q = p ∙ sym q
range_status_once I at (Ok (No line why)) s t p q = p ∙ sym q
range_status_once I at (Err (Text kind line)) s t p q = p ∙ sym q
range_status_once I at (Err TooLong) s t p q = p ∙ sym q
range_status_once I at (Err ReadFailed) s t p q = p ∙ sym q
range_status_once I at (Err unread.NoMemory) s t p q = p ∙ sym q

-- of one file one status follows
pub range_due_once : {D : Type 0} (of : Status → D) (I : Instance) (at : CostAt) (bytes : List ℕ) (s t : D) → RangeDue I at bytes (λ status. s ≡ of status) → RangeDue I at bytes (λ status. t ≡ of status) → s ≡ t
range_due_once of I at bytes s t (inl p) (inl q) = p.1 ∙ sym q.1
range_due_once of I at bytes s t (inl p) (inr q) = absurd (omega (arith, p.0, q.0))
range_due_once of I at bytes s t (inr p) (inl q) = absurd (omega (arith, p.0, q.0))
range_due_once of I at bytes s t (inr p) (inr q) =
    let here = p.1 in
    let there = q.1 in
    let once : there.0 ≡ here.0 = one_answer MAX_CERTIFICATE_BYTES I bytes there.0 here.0 there.1 here.1 in
    let same : here.2.0 ≡ there.2.0 = range_status_once I at here.0 here.2.0 there.2.0 here.2.1 (subst (λ answer. RangeStatus I at answer there.2.0) once there.2.1) in
    here.2.2 ∙ ap of same ∙ sym there.2.2

-- the instance has the cost or lacks it
some_or_none : (cost : Option ℕ) → IsSome cost ⊎ (IsSome cost → ⊥)
some_or_none None = inr false≢true
some_or_none (Some c) = inl refl

has_or_lacks_cost : (I : Instance) (at : CostAt) → HasCost I at ⊎ (HasCost I at → ⊥)
has_or_lacks_cost I (Site s) = has_or_lacks (site_ids I) s
has_or_lacks_cost I (Lane s c) = some_or_none (lane I s c)

by_cost : (I : Instance) (at : CostAt) (cost : ℕ) → HasCost I at ⊎ (HasCost I at → ⊥) → (status : Status) × RangeStatus I at (Ok (Yes (claimed.Optimal cost))) status
by_cost I at cost (inl has) = (Done, inl (has, refl))
by_cost I at cost (inr lacks) = (Refused, inr (lacks, refl))

-- each answer has a status
pub some_range_status : (I : Instance) (at : CostAt) (answer : Answer) → (status : Status) × RangeStatus I at answer status
some_range_status I at (Ok (Yes (claimed.Optimal cost))) = by_cost I at cost (has_or_lacks_cost I at)
some_range_status I at (Ok (Yes claimed.Infeasible)) = (CheckNo, refl)
some_range_status I at (Ok (Yes (claimed.Bracket low high))) = (CheckNo, refl)
some_range_status I at (Ok (No line why)) = (CheckNo, refl)
some_range_status I at (Err (Text kind line)) = (CheckNo, refl)
some_range_status I at (Err TooLong) = (status_in (Err TooLong), refl)
some_range_status I at (Err ReadFailed) = (status_in (Err ReadFailed), refl)
some_range_status I at (Err unread.NoMemory) = (status_in (Err unread.NoMemory), refl)

pub ranged_status : (I : Instance) (at : CostAt) (claim : Claim) → ClaimsOptimum claim → HasCost I at → RangeStatus I at (Ok (Yes claim)) Done
ranged_status I at (claimed.Optimal cost) optimum has = inl (has, refl)
ranged_status I at claimed.Infeasible optimum has = absurd optimum
ranged_status I at (claimed.Bracket low high) optimum has = absurd optimum

pub lacking_status : (I : Instance) (at : CostAt) (claim : Claim) → ClaimsOptimum claim → (HasCost I at → ⊥) → RangeStatus I at (Ok (Yes claim)) Refused
lacking_status I at (claimed.Optimal cost) optimum lacks = inr (lacks, refl)
lacking_status I at claimed.Infeasible optimum lacks = absurd optimum
lacking_status I at (claimed.Bracket low high) optimum lacks = absurd optimum

pub no_optimum_status : (I : Instance) (at : CostAt) (claim : Claim) → (ClaimsOptimum claim → ⊥) → RangeStatus I at (Ok (Yes claim)) CheckNo
no_optimum_status I at (claimed.Optimal cost) other = absurd (other tt)
no_optimum_status I at claimed.Infeasible other = refl
no_optimum_status I at (claimed.Bracket low high) other = refl

-- why a cost isn't there says that it isn't
pub lacks_site : (I : Instance) (at : CostAt) → IsValid I → LacksCost I at lacking.NoSite → HasCost I at → ⊥
lacks_site I (Site s) valid none has = none has
lacks_site I (Lane s c) valid none has = let known = valid.lanes_known s c has in none known.0

pub lacks_customer : (I : Instance) (at : CostAt) → IsValid I → LacksCost I at lacking.NoCustomer → HasCost I at → ⊥
lacks_customer I (Site s) valid none has = none
lacks_customer I (Lane s c) valid none has = let known = valid.lanes_known s c has in none.1 known.1

none_and_some : (cost : Option ℕ) → IsNone cost → IsSome cost → ⊥
none_and_some None none some = false≢true some
none_and_some (Some c) none some = false≢true (sym none)

pub lacks_lane : (I : Instance) (at : CostAt) → LacksCost I at lacking.NoLane → HasCost I at → ⊥
lacks_lane I (Site s) none has = none
lacks_lane I (Lane s c) none has = none_and_some (lane I s c) none.2 has

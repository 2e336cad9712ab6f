-- There is a verdict on any bytes: against what a line shows something speaks, or it stands.
use Rattle.std.proofs.Common.{◌≡◌, ◌⊎◌, ℕ, ◌+◌, ◌≤◌, Bool, false, List, [], ◌∷◌, length, take, refl, ap, arith, inl, inr, Result, Ok, Err, zero, suc}
use Rattle.std.specs.Prelude.{All, Option, None, Some, IsSomeAnd, ℤ, pos, ◌-ℤ◌, ◌*ℤ◌, ◌≤ℤ◌, ◌<ℤ◌, nat_lt}
use Rattle.std.specs.List.{slice_split}
use Rattle.std.proofs.lemmas.Int.{by_lt_z, ints}
use Rattle.std.proofs.lemmas.List.Elements.{All-nil, All-cons, All-head, All-tail}
use Rattle.shelf_lines.specs.Line.{is_line_feed}
use Rattle.location_terms.specs.declared.claim.Claim.{Claim}
use Rattle.location_terms.specs.Instance.{Instance, IsValid}
use Rattle.location_terms.specs.Plan.{cost_of}
use Rattle.location_terms.specs.Fit.{BoundCloses}
use Rattle.location_terms.specs.Leaf.{leaf_bound}
use Rattle.location_terms.specs.Certificate.{cost_claimed, target_of}
use Rattle.plan_meaning.proofs.Faults.{OrNot, same_or_not-number, feasible_or_fault}
use Rattle.certificate_lines.specs.declared.fault.CertFault.{CertFault}
use Rattle.certificate_lines.specs.Due.{Due, HeaderDue, Shown, NothingShown, PlanShown, SplitShown, LeafShown, Suits}
use Rattle.certificate_lines.specs.Lines.{Said, read_line}
use Rattle.location_terms.specs.Certificate.{cost_claimed, target_of}
use Rattle.certificate_lines.proofs.Gives.{IsPlanned, gives-line}
use Rattle.certificate_reader.specs.Transcript.{Transcript, line_first, transcript_from, transcript_of, transcript_within}
use Rattle.certificate_check.specs.declared.verdict.Why.{Why}
use Rattle.certificate_check.specs.declared.verdict.Why.TheVariants.{PlanRefused, CostDiffers, LeafOpen}
use Rattle.certificate_check.specs.declared.verdict.Verdict.TheVariants.{No}
use Rattle.certificate_check.specs.Judgement.{IsAgainst, Stands}
use Rattle.certificate_check.specs.Verdict.{Answer, at_end, line_of, IsJudged, IsVerdict, IsAnswer}

-- whether an optional cost is this one
is_cost : (cost : ℕ) (claimed : Option ℕ) → OrNot (Some cost ≡ claimed)
is_cost cost None = inr (λ e. cc)
is_cost cost (Some other) =
    elim (same_or_not-number cost other) [
      | inl same ↦ inl (ap Some same)
      | inr differs ↦ inr (λ e. differs (cc))
    ]

above_or_not : (a b : ℤ) → OrNot (a <ℤ b)
above_or_not a b = by_lt_z a b (λ above. inl above) (λ below. inr (λ above. absurd (omega (arith, ints, above, below))))

up_to_or_not : (a b : ℤ) → OrNot (a ≤ℤ b)
up_to_or_not a b = by_lt_z b a (λ above. inr (λ below. absurd (omega (arith, ints, above, below)))) (λ below. inl below)

-- a bound at scale 0, and at a scale
closes_empty : (bound : ℤ) (target : Option ℕ) → OrNot (BoundCloses bound 0 target)
closes_empty bound target =
    elim (up_to_or_not (pos 1) bound) [
      | inl closed ↦ inl (inl (refl, closed))
      | inr fails ↦ inr (λ closes. elim closes [ inl empty ↦ fails empty.1 | inr scaled ↦ absurd (omega (arith, scaled.0)) ])
    ]

closes_scaled : (bound : ℤ) (q : ℕ) (target : Option ℕ) → 1 ≤ q → OrNot (IsSomeAnd target (λ T. (pos q *ℤ (pos T -ℤ pos 1)) <ℤ bound)) → OrNot (BoundCloses bound q target)
closes_scaled bound q target scale (inl closed) = inl (inr (scale, closed))
closes_scaled bound q target scale (inr fails) = inr (λ closes. elim closes [ inl empty ↦ absurd (omega (arith, empty.0, scale)) | inr scaled ↦ fails scaled.1 ])

closes_or_not : (bound : ℤ) (q : ℕ) (target : Option ℕ) → OrNot (BoundCloses bound q target)
closes_or_not bound zero target = closes_empty bound target
closes_or_not bound (suc q) None = closes_scaled bound (suc q) None (omega arith) (inr (λ e. e))
closes_or_not bound (suc q) (Some T) = closes_scaled bound (suc q) (Some T) (omega arith) (above_or_not (pos (suc q) *ℤ (pos T -ℤ pos 1)) bound)

-- what is shown stands, or something speaks against it
judged : (I : Instance) (shown : Shown) → IsPlanned shown → Stands I shown ⊎ ((why : Why) × IsAgainst I shown why)
judged I NothingShown planned = inl tt
judged I (PlanShown claim P) planned =
    elim (feasible_or_fault I P planned) [
      | inl feasible ↦ elim (is_cost (cost_of I P) (cost_claimed claim)) [
        | inl same ↦ inl (feasible, same)
        | inr differs ↦ inr (CostDiffers (cost_of I P), (feasible, refl, differs))
      ]
      | inr fault ↦ inr (PlanRefused fault.0, fault.1)
    ]
judged I (SplitShown split) planned = inl tt
judged I (LeafShown claim path d) planned =
    elim (closes_or_not (leaf_bound I path d) d.q (target_of claim)) [
      | inl closed ↦ inl closed
      | inr fails ↦ inr (LeafOpen (leaf_bound I path d) d.q, (refl, refl, fails))
    ]

-- what is shown has an answer
some_judged : (I : Instance) (n : ℕ) (shown : List Shown) (end : Result Claim CertFault) → All IsPlanned shown → (answer : Answer) × IsJudged I n shown end answer
some_judged I n [] end planned = (at_end end, refl)
some_judged I n (s ∷ shown) end planned =
    elim (judged I s (All-head IsPlanned s shown planned)) [
      | inl stands ↦ let later = some_judged I (n + 1) shown end (All-tail IsPlanned s shown planned) in (later.0, inr (stands, later.1))
      | inr against ↦ (Ok (No (line_of s n) against.0), inl (against.0, against.1, refl))
    ]

-- each plan that lines show is one
line_planned : (n : ℕ) (said : Said) (follows : Due → Transcript) → ((next : Due) (shown : Shown) → said ≡ Ok (next, shown) → IsPlanned shown × All IsPlanned (follows next).shown) → All IsPlanned (line_first n said follows).shown
line_planned n (Err kind) follows more = All-nil IsPlanned
line_planned n (Ok (next, shown)) follows more = let behind = more next shown refl in All-cons IsPlanned shown (follows next).shown behind.0 behind.1

all_planned : (longer : Bool) (I : Instance) (due : Due) (n : ℕ) (pieces : List (List ℕ)) → IsValid I → Suits I due → All IsPlanned (transcript_from longer I due n pieces).shown
all_planned longer I due n [] valid suits = All-nil IsPlanned
all_planned longer I due n (rest ∷ []) valid suits = All-nil IsPlanned
all_planned longer I due n (this ∷ next ∷ more) valid suits =
    line_planned n (read_line I due this) (λ behind. transcript_from longer I behind (n + 1) (next ∷ more))
    (λ behind shown is. let good = gives-line I due this (behind, shown) suits is in (good.2 valid, all_planned longer I behind (n + 1) (next ∷ more) valid good.0))

pub some_verdict : (I : Instance) (bytes : List ℕ) → IsValid I → (answer : Answer) × IsVerdict I bytes answer
some_verdict I bytes valid =
    let read = transcript_of false I bytes in
    some_judged I 1 read.shown read.end (all_planned false I HeaderDue 1 (slice_split is_line_feed bytes) valid tt)

pub some_answer : (limit : ℕ) (I : Instance) (bytes : List ℕ) → IsValid I → (answer : Answer) × IsAnswer limit I bytes answer
some_answer limit I bytes valid =
    let read = transcript_within limit I bytes in
    some_judged I 1 read.shown read.end (all_planned (nat_lt limit (length bytes)) I HeaderDue 1 (slice_split is_line_feed (take limit bytes)) valid tt)

-- What speaks against a plan or a leaf that a certificate shows, and when nothing does.
use Rattle.std.specs.Prelude.{◌≡◌, ◌≢◌, Some}
use Rattle.location_terms.specs.Instance.{Instance}
use Rattle.location_terms.specs.Plan.{IsFeasible, cost_of}
use Rattle.location_terms.specs.Fit.{BoundCloses}
use Rattle.location_terms.specs.Leaf.{leaf_bound}
use Rattle.location_terms.specs.Certificate.{cost_claimed, target_of}
use Rattle.plan_meaning.specs.PlanFault.{IsFirstFault}
use Rattle.certificate_lines.specs.Due.{Shown, PlanShown, LeafShown}
use Rattle.certificate_check.specs.declared.verdict.Why.{Why}
use Rattle.certificate_check.specs.declared.verdict.Why.TheVariants.{PlanRefused, CostDiffers, LeafOpen}

-- this speaks against what is shown
abbrev pub IsAgainst : Instance → Shown → Why → Type 0
IsAgainst I (PlanShown claim P) (PlanRefused fault) = IsFirstFault I P fault
IsAgainst I (PlanShown claim P) (CostDiffers found) = IsFeasible I P × (cost_of I P ≡ found) × (Some found ≢ cost_claimed claim)
IsAgainst I (LeafShown claim path d) (LeafOpen bound q) = (bound ≡ leaf_bound I path d) × (q ≡ d.q) × ¬ BoundCloses bound q (target_of claim)
IsAgainst I shown why = ⊥

-- nothing speaks against what is shown: the plan is feasible and costs what is claimed, the leaf closes
abbrev pub Stands : Instance → Shown → Type 0
Stands I (PlanShown claim P) = IsFeasible I P × (Some (cost_of I P) ≡ cost_claimed claim)
Stands I (LeafShown claim path d) = BoundCloses (leaf_bound I path d) d.q (target_of claim)
Stands I shown = Unit {0}

-- The text of a center's plan file: what is known of the best radius, and the plan with the costs of the instance itself.
use Rattle.std.specs.Prelude.{ℕ, List, ◌++◌, Option, codes}
use Rattle.location_terms.specs.Instance.{Instance}
use Rattle.location_terms.specs.Plan.{Plan}
use Rattle.number_words.specs.Cost.{micro_text}
use Rattle.fixed_cost.specs.Claim.{high_text}
use Rattle.report.specs.PlanText.{plan_report}
use Rattle.center_text.specs.declared.claim.RadiusClaim.{RadiusClaim}
use Rattle.center_text.specs.declared.claim.RadiusClaim.TheVariants.{Best, Infeasible, Bracket}

-- what is known of the best radius: it is this, no plan is feasible, or it lies between two ends, of which the high one is the radius of a plan that is known
abbrev pub radius_text : RadiusClaim → List ℕ
radius_text (Best radius) = codes "radius " ++ micro_text radius
radius_text Infeasible = codes "infeasible"
radius_text (Bracket low high) = codes "bracket " ++ micro_text low ++ codes " " ++ high_text high

-- and the plan, where there is one, by the lines of a plan text: its open sites, then who serves each customer, with what they cost in this instance
abbrev pub center_text_of : Instance → RadiusClaim → Option Plan → List ℕ
center_text_of I claim plan = codes "dualoc-center 1\n" ++ radius_text claim ++ codes "\n" ++ plan_report I plan ++ codes "end\n"

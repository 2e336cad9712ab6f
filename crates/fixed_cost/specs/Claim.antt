-- A claim as text, with its costs in units.
use Rattle.std.specs.Prelude.{ℕ, List, ◌++◌, Option, None, Some, codes}
use Rattle.location_terms.specs.declared.claim.Claim.{Claim}
use Rattle.location_terms.specs.declared.claim.Claim.TheVariants.{Optimal, Infeasible, Bracket}
use Rattle.number_words.specs.Cost.{micro_text}

-- the high end of a bracket, where a plan is known
abbrev pub high_text : Option ℕ → List ℕ
high_text None = codes "none"
high_text (Some cost) = micro_text cost

abbrev pub claim_text : Claim → List ℕ
claim_text (Optimal cost) = codes "optimal " ++ micro_text cost
claim_text Infeasible = codes "infeasible"
claim_text (Bracket low high) = codes "bracket " ++ micro_text low ++ codes " " ++ high_text high

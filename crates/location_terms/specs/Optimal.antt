-- What an answer claims of an instance. These speak of all plans, and of no dual, bound or tree.
use Rattle.std.specs.Prelude.{◌≡◌, ℕ, ◌≤◌, Option, IfSome, IsSomeAnd}
use Rattle.location_terms.specs.declared.claim.Claim.{Claim}
use Rattle.location_terms.specs.declared.claim.Claim.TheVariants.{Optimal, Infeasible, Bracket}
use Rattle.location_terms.specs.Instance.{Instance}
use Rattle.location_terms.specs.Plan.{Plan, IsFeasible, cost_of}

-- no feasible plan costs less than this
abbrev pub IsLowEnd : Instance → ℕ → Type 0
IsLowEnd I low = (Q : Plan) → IsFeasible I Q → low ≤ cost_of I Q

pub record IsOptimal (I : Instance) (P : Plan) : Type 0 where
  pub feasible : IsFeasible I P
  pub least : IsLowEnd I (cost_of I P)

abbrev pub IsImpossible : Instance → Type 0
IsImpossible I = (Q : Plan) → IsFeasible I Q → ⊥

-- what the claim says of the instance and the plan that comes with it
abbrev pub ClaimHolds : Instance → Claim → Option Plan → Type 0
ClaimHolds I (Optimal cost) plan = IsSomeAnd plan (λ P. IsOptimal I P × (cost_of I P ≡ cost))
ClaimHolds I Infeasible plan = IsImpossible I
ClaimHolds I (Bracket low high) plan = IsLowEnd I low × IfSome high (λ cost. IsSomeAnd plan (λ P. IsFeasible I P × (cost_of I P ≡ cost)))

-- The claim that a plan and a tree show holds.
use Rattle.std.proofs.Common.{◌≡◌, ℕ, arith, Option, None, Some}
use Rattle.std.specs.Prelude.{IsSomeAnd}
use Rattle.location_terms.specs.declared.claim.Claim.{Claim}
use Rattle.location_terms.specs.declared.claim.Claim.TheVariants.{Optimal, Infeasible, Bracket}
use Rattle.location_terms.specs.Instance.{Instance, IsValid}
use Rattle.location_terms.specs.Plan.{Plan, cost_of}
use Rattle.location_terms.specs.Optimal.{IsLowEnd, IsOptimal, ClaimHolds}
use Rattle.location_terms.specs.Tree.{Tree}
use Rattle.location_terms.specs.Certificate.{Costs, Shows}
use Rattle.location_terms.proofs.LowEnds.{shows_low_end, shows_impossible}

-- no feasible plan costs less than the plan that costs this
optimal_at : (I : Instance) (plan : Option Plan) (cost : ℕ) → Costs I plan cost → IsLowEnd I cost → IsSomeAnd plan (λ P. IsOptimal I P × (cost_of I P ≡ cost))
optimal_at I None cost costs low = costs
optimal_at I (Some P) cost costs low = (record { feasible = costs.0; least = λ Q feasible. omega (arith, costs.1, low Q feasible) }, costs.1)

module _ (I : Instance) (valid : IsValid I) where
  pub claim_holds : (claim : Claim) (plan : Option Plan) (t : Tree) → Shows I claim plan t → ClaimHolds I claim plan
  claim_holds (Optimal cost) plan t shows = optimal_at I plan cost shows.0 (shows_low_end I valid t cost shows.1)
  claim_holds Infeasible plan t shows = shows_impossible I valid t shows.1
  claim_holds (Bracket low None) plan t shows = (shows_low_end I valid t low shows.1, tt)
  claim_holds (Bracket low (Some high)) plan t shows = (shows_low_end I valid t low shows.1, shows.0)

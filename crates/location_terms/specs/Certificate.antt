-- A claim with what shows it, and when the checker accepts it.
use Rattle.std.specs.Prelude.{◌≡◌, ℕ, Option, None, Some, IsNone, IsSomeAnd, MatchOption}
use Rattle.location_terms.specs.declared.claim.Claim.{Claim}
use Rattle.location_terms.specs.declared.claim.Claim.TheVariants.{Optimal, Infeasible, Bracket}
use Rattle.location_terms.specs.Instance.{Instance}
use Rattle.location_terms.specs.Plan.{Plan, IsFeasible, cost_of}
use Rattle.location_terms.specs.Tree.{Tree, IsTree, StandsOn, AllClose}

pub record Certificate : Type 0 where
  pub claim : Claim
  pub plan : Option Plan
  pub tree : Tree

-- what a plan of the claim is to cost, where the claim has a plan
abbrev pub cost_claimed : Claim → Option ℕ
cost_claimed (Optimal cost) = Some cost
cost_claimed Infeasible = None
cost_claimed (Bracket low high) = high

-- the cost against which each leaf is to close, where the claim speaks of a cost
abbrev pub target_of : Claim → Option ℕ
target_of (Optimal cost) = Some cost
target_of Infeasible = None
target_of (Bracket low high) = Some low

-- the plan is feasible and costs this
abbrev pub Costs : Instance → Option Plan → ℕ → Type 0
Costs I plan cost = IsSomeAnd plan (λ P. IsFeasible I P × (cost_of I P ≡ cost))

-- the plan shows the claim's upper side, and the leaves of the tree show its lower side
abbrev pub Shows : Instance → Claim → Option Plan → Tree → Type 0
Shows I (Optimal cost) plan tree = Costs I plan cost × AllClose I tree (Some cost)
Shows I Infeasible plan tree = IsNone plan × AllClose I tree None
Shows I (Bracket low high) plan tree = MatchOption high (IsNone plan) (Costs I plan) × AllClose I tree (Some low)

pub record IsAccepted (I : Instance) (cert : Certificate) : Type 0 where
  pub tree : IsTree cert.tree
  pub stands : StandsOn cert.tree I
  pub shows : Shows I cert.claim cert.plan cert.tree

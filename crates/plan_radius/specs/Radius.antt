-- How far the farthest customer of a plan is from its site, and the plans that make that the least: the centers of Hakimi, Operations Research 12 (1964),
-- with capacities, a number of sites and statuses. What a plan costs doesn't count here.
use Rattle.std.specs.Prelude.{ℕ, ◌<◌, ◌≤◌, max, map, fold, unwrap_or, IfSome}
use Rattle.location_terms.specs.Instance.{Instance, lane}
use Rattle.location_terms.specs.Plan.{Plan, IsFeasible}

-- the greatest cost of a lane that the plan uses, in millionths
abbrev pub radius_of : Instance → Plan → ℕ
radius_of I P = fold max 0 (map (λ v. unwrap_or (lane I v.1 v.0) 0) P.serves)

-- no feasible plan has a smaller radius
abbrev pub IsLeastRadius : Instance → ℕ → Type 0
IsLeastRadius I r = (Q : Plan) → IsFeasible I Q → r ≤ radius_of I Q

-- the plan is feasible, and no feasible plan has a smaller radius: the plan's radius is the best one
pub record IsCenter (I : Instance) (P : Plan) : Type 0 where
  pub feasible : IsFeasible I P
  pub least : IsLeastRadius I (radius_of I P)

-- every lane costs less than this
abbrev pub IsAboveLanes : Instance → ℕ → Type 0
IsAboveLanes I r = (s c : ℕ) → IfSome (lane I s c) (λ cost. cost < r)

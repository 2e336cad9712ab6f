-- For private functions alone: no public contract cites this page.
-- Sets of sites of an instance, and what a cheapest plan that opens such a set costs.
use Rattle.std.specs.Prelude.{◌≡◌, ℕ, ◌+◌, ◌/◌, ◌%◌, ◌==◌, List, [], ◌∷◌, sum_by, min, Contains, All, unwrap_or, if◌then◌else◌}
use Rattle.location_terms.specs.Instance.{Instance, site_ids, customer_ids, lane, fixed_of}
use Rattle.location_terms.specs.Plan.{Plan, served}
use Rattle.location_terms.specs.declared.limits.TheConstants.{MAX_AMOUNT}

-- the ids that a set holds: its bit i says whether it has the id at place i
abbrev pub members : ℕ → List ℕ → List ℕ
members set [] = []
members set (s ∷ ss) = if set % 2 == 1 then s ∷ members (set / 2) ss else members (set / 2) ss

-- the ids of the sites of a set of places
abbrev pub opened : Instance → ℕ → List ℕ
opened I set = members set (site_ids I)

-- what it costs to serve the customer from the site
abbrev pub lane_cost : Instance → ℕ → ℕ → ℕ
lane_cost I s c = unwrap_or (lane I s c) 0

-- the least cost of serving the customer from one of these sites, or a cost above all lanes where there are none
abbrev pub least_cost : Instance → List ℕ → ℕ → ℕ
least_cost I [] c = MAX_AMOUNT + 1
least_cost I (s ∷ S) c = min (lane_cost I s c) (least_cost I S c)

-- what it costs to open these sites and to serve each customer from the cheapest of them
abbrev pub cost_on : Instance → List ℕ → ℕ
cost_on I S = sum_by (fixed_of I) S + sum_by (least_cost I S) (customer_ids I)

-- the site is one of these, and none of them serves the customer at a lower cost
pub record IsNearest (I : Instance) (S : List ℕ) (c s : ℕ) : Type 0 where
  pub among : Contains S s
  pub least : lane_cost I s c ≡ least_cost I S c

-- the plan opens these sites and serves each customer from a nearest one
pub record IsNearestPlan (I : Instance) (S : List ℕ) (P : Plan) : Type 0 where
  pub sites : P.sites ≡ S
  pub each_once : served P ≡ customer_ids I
  pub nearest : All (λ v. IsNearest I S v.0 v.1) P.serves

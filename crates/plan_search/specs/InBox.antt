-- The paths in whose boxes plans are sought, and a cheapest plan of a box.
use Rattle.std.specs.Prelude.{◌≡◌, ◌≤◌, false, Option, None, Some, Contains, All}
use Rattle.location_terms.specs.declared.decision.Decision.{Decision}
use Rattle.location_terms.specs.declared.decision.Decision.TheVariants.{Opened, Closed, Yes, No}
use Rattle.location_terms.specs.Instance.{Instance, site_ids, customer_ids}
use Rattle.location_terms.specs.Plan.{Plan, IsFeasible, cost_of}
use Rattle.location_terms.specs.Box.{Path, IsInBox, is_free}

-- the decision names a site, and a customer, of the instance
abbrev pub NamesKnown : Instance → Decision → Type 0
NamesKnown I (Opened s) = Contains (site_ids I) s
NamesKnown I (Closed s) = Contains (site_ids I) s
NamesKnown I (Yes s c) = Contains (site_ids I) s × Contains (customer_ids I) c
NamesKnown I (No s c) = Contains (site_ids I) s × Contains (customer_ids I) c

-- the path names ids of the instance alone
abbrev pub IsPathOf : Instance → Path → Type 0
IsPathOf I path = All (NamesKnown I) path

-- a feasible plan of the box than which none is cheaper
pub record IsCheapestIn (I : Instance) (path : Path) (P : Plan) : Type 0 where
  pub feasible : IsFeasible I P
  pub in_box : IsInBox P path
  pub least : (Q : Plan) → IsFeasible I Q → IsInBox Q path → cost_of I P ≤ cost_of I Q

-- no site has a capacity
abbrev pub HasNoCaps : Instance → Type 0
HasNoCaps I = All (λ s. s.cap ≡ None) I.sites

-- each site is opened or closed in the box
abbrev pub SettlesSites : Instance → Path → Type 0
SettlesSites I path = All (λ s. is_free path s ≡ false) I.sites

-- where a plan is given, there is one that costs at most as much
abbrev pub IsNoWorse : Instance → Option Plan → Option Plan → Type 0
IsNoWorse I found None = Unit {0}
IsNoWorse I None (Some P) = ⊥
IsNoWorse I (Some Q) (Some P) = cost_of I Q ≤ cost_of I P

-- a cheapest plan of the box, and none where the box holds none
abbrev pub IsBestIn : Instance → Path → Option Plan → Type 0
IsBestIn I path None = (Q : Plan) → IsFeasible I Q → IsInBox Q path → ⊥
IsBestIn I path (Some P) = IsCheapestIn I path P

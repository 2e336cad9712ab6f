-- What a plan is, when it is feasible for an instance, and what it costs: the plans of the simple plant location
-- problem of Erlenkotter, Operations Research 26 (1978), with capacities, a number of sites and statuses.
use Rattle.std.specs.Prelude.{◌≡◌, ℕ, ◌+◌, ◌≤◌, ◌==◌, List, map, filter, sum_by, length, All, Contains, IfSome, IsSome, unwrap_or, refl}
use Rattle.std.specs.List.Sorted.{IsStrictlyIncreasing}
use Rattle.std.specs.Coded.{Coded, code_by, coded×, coded_ℕ, coded_list}
use Rattle.location_terms.specs.declared.status.SiteStatus.{SiteStatus}
use Rattle.location_terms.specs.declared.status.SiteStatus.TheVariants.{Free, MustOpen, MustClose}
use Rattle.location_terms.specs.Instance.{Instance, site_ids, customer_ids, lane, fixed_of, demand_of}

-- the ids of the open sites, and for each customer's id the id of the site that serves it
pub record Plan : Type 0 where
  pub sites : List ℕ
  pub serves : List (ℕ × ℕ)

-- the ids of the customers that the plan serves
abbrev pub served : Plan → List ℕ
served P = map (λ v. v.0) P.serves

-- open sites and served customers stand once each, in the order of their ids
pub record IsPlan (P : Plan) : Type 0 where
  pub sites_rise : IsStrictlyIncreasing P.sites
  pub customers_rise : IsStrictlyIncreasing (served P)

-- the demand that the plan serves from a site
abbrev pub load_of : Instance → Plan → ℕ → ℕ
load_of I P s = sum_by (λ v. demand_of I v.0) (filter (λ v. v.1 == s) P.serves)

-- the plan does with the site what its status asks for
abbrev pub KeepsStatus : Plan → ℕ → SiteStatus → Type 0
KeepsStatus P s Free = Unit {0}
KeepsStatus P s MustOpen = Contains P.sites s
KeepsStatus P s MustClose = Contains P.sites s → ⊥

pub record IsFeasible (I : Instance) (P : Plan) : Type 0 where
  pub plan : IsPlan P
  pub sites_known : All (Contains (site_ids I)) P.sites
  pub each_once : served P ≡ customer_ids I
  pub by_open : All (λ v. Contains P.sites v.1) P.serves
  pub by_lane : All (λ v. IsSome (lane I v.1 v.0)) P.serves
  pub within_cap : All (λ s. Contains P.sites s.id → IfSome s.cap (λ cap. load_of I P s.id ≤ cap)) I.sites
  pub at_least : I.lo ≤ length P.sites
  pub at_most : length P.sites ≤ I.hi
  pub statuses : All (λ s. KeepsStatus P s.id s.status) I.sites

-- the cost of the open sites and of the used lanes, in millionths
abbrev pub cost_of : Instance → Plan → ℕ
cost_of I P = sum_by (fixed_of I) P.sites + sum_by (λ v. unwrap_or (lane I v.1 v.0) 0) P.serves

-- the code by which a struct can have a plan as its value
abbrev pub plan_code : Coded Plan
plan_code =
    code_by (List ℕ × List (ℕ × ℕ)) (coded× (coded_list coded_ℕ) (coded_list (coded× coded_ℕ coded_ℕ)))
    (λ P. (P.sites, P.serves)) (λ p. record { sites = p.0; serves = p.1 }) (λ _. refl)

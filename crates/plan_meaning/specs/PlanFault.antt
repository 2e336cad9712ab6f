-- The parts of feasibility in the order in which they are judged, and the first that does not hold.
use Rattle.std.specs.Prelude.{◌≡◌, ℕ, ◌≤◌, List, length, All, Contains, IfSome, IsSome, codes}
use Rattle.location_terms.specs.Instance.{Instance, Site, site_ids, customer_ids, lane}
use Rattle.location_terms.specs.Plan.{Plan, served, load_of, KeepsStatus}
use Rattle.plan_meaning.specs.declared.fault.PlanFault.{PlanFault}
use Rattle.plan_meaning.specs.declared.fault.PlanFault.TheVariants.{UnknownSite, NotEachCustomerOnce, ServedByClosed, NoLane, OverCapacity, SiteCount, StatusBroken}

-- each open site is one of the instance
abbrev pub KnowsSites : Instance → Plan → Type 0
KnowsSites I P = All (Contains (site_ids I)) P.sites

-- the customers of the plan are just those of the instance
abbrev pub ServesEachOnce : Instance → Plan → Type 0
ServesEachOnce I P = served P ≡ customer_ids I

-- each customer's site is open
abbrev pub ServesFromOpen : Plan → Type 0
ServesFromOpen P = All (λ v. Contains P.sites v.1) P.serves

-- each customer's site has a lane to it
abbrev pub UsesLanes : Instance → Plan → Type 0
UsesLanes I P = All (λ v. IsSome (lane I v.1 v.0)) P.serves

-- what the site serves, if it is open, is together within its capacity
abbrev pub KeepsCap : Instance → Plan → Site → Type 0
KeepsCap I P s = Contains P.sites s.id → IfSome s.cap (λ cap. load_of I P s.id ≤ cap)

abbrev pub KeepsCaps : Instance → Plan → Type 0
KeepsCaps I P = All (KeepsCap I P) I.sites

-- the number of open sites is within the instance's bounds
abbrev pub KeepsCount : Instance → Plan → Type 0
KeepsCount I P = (I.lo ≤ length P.sites) × (length P.sites ≤ I.hi)

-- the plan does with each site what its status asks for
abbrev pub KeepsStatuses : Instance → Plan → Type 0
KeepsStatuses I P = All (λ s. KeepsStatus P s.id s.status) I.sites

-- the part that the fault names does not hold, and those before it do
abbrev pub IsFirstFault : Instance → Plan → PlanFault → Type 0
IsFirstFault I P UnknownSite = ¬ KnowsSites I P
IsFirstFault I P NotEachCustomerOnce = KnowsSites I P × (¬ ServesEachOnce I P)
IsFirstFault I P ServedByClosed = KnowsSites I P × ServesEachOnce I P × (¬ ServesFromOpen P)
IsFirstFault I P NoLane = KnowsSites I P × ServesEachOnce I P × ServesFromOpen P × (¬ UsesLanes I P)
IsFirstFault I P OverCapacity = KnowsSites I P × ServesEachOnce I P × ServesFromOpen P × UsesLanes I P × (¬ KeepsCaps I P)
IsFirstFault I P SiteCount = KnowsSites I P × ServesEachOnce I P × ServesFromOpen P × UsesLanes I P × KeepsCaps I P × (¬ KeepsCount I P)
IsFirstFault I P StatusBroken = KnowsSites I P × ServesEachOnce I P × ServesFromOpen P × UsesLanes I P × KeepsCaps I P × KeepsCount I P × (¬ KeepsStatuses I P)

-- the name by which a fault is printed
abbrev pub fault_name : PlanFault → List ℕ
fault_name UnknownSite = codes "UnknownSite"
fault_name NotEachCustomerOnce = codes "NotEachCustomerOnce"
fault_name ServedByClosed = codes "ServedByClosed"
fault_name NoLane = codes "NoLane"
fault_name OverCapacity = codes "OverCapacity"
fault_name SiteCount = codes "SiteCount"
fault_name StatusBroken = codes "StatusBroken"

-- A box is the set of the plans that keep to a path of decisions. What a box settles of a site and of a lane.
use Rattle.std.specs.Prelude.{ℕ, ◌==◌, ◌&&◌, ◌||◌, not, Bool, true, false, List, All, Contains, Option, None, Some, is_some, nat_le}
use Rattle.std.specs.List.{list_any}
use Rattle.location_terms.specs.declared.status.SiteStatus.{SiteStatus}
use Rattle.location_terms.specs.declared.status.SiteStatus.TheVariants.{MustOpen, MustClose}
use Rattle.location_terms.specs.declared.decision.Decision.{Decision}
use Rattle.location_terms.specs.declared.decision.Decision.TheVariants.{Opened, Closed, Yes, No}
use Rattle.location_terms.specs.Instance.{Instance, Site, Customer, lane}
use Rattle.location_terms.specs.Plan.{Plan}

-- the decisions from the root of a tree to a box
abbrev pub Path : Type 0
Path = List Decision

-- the decision is true of the plan
abbrev pub IsKept : Plan → Decision → Type 0
IsKept P (Opened s) = Contains P.sites s
IsKept P (Closed s) = Contains P.sites s → ⊥
IsKept P (Yes s c) = Contains P.serves (c, s)
IsKept P (No s c) = Contains P.serves (c, s) → ⊥

abbrev pub IsInBox : Plan → Path → Type 0
IsInBox P path = All (IsKept P) path

-- whether a decision closes the site of this id, opens it, serves someone from it
abbrev pub closes_site : ℕ → Decision → Bool
closes_site s (Closed t) = s == t
closes_site s _ = false

abbrev pub opens_site : ℕ → Decision → Bool
opens_site s (Opened t) = s == t
opens_site s (Yes t c) = s == t
opens_site s _ = false

-- whether a decision takes the lane from the site to the customer away, by a no or by a yes to another site
abbrev pub bars_lane : ℕ → ℕ → Decision → Bool
bars_lane s c (No t d) = (s == t) && (c == d)
bars_lane s c (Yes t d) = not (s == t) && (c == d)
bars_lane s c _ = false

abbrev pub must_open : SiteStatus → Bool
must_open MustOpen = true
must_open _ = false

abbrev pub must_close : SiteStatus → Bool
must_close MustClose = true
must_close _ = false

-- the box or the status closes the site
abbrev pub is_closed : Path → Site → Bool
is_closed path s = must_close s.status || list_any (closes_site s.id) path

-- the box or the status asks for the site to be open
abbrev pub is_called_for : Path → Site → Bool
is_called_for path s = must_open s.status || list_any (opens_site s.id) path

abbrev pub is_opened : Path → Site → Bool
is_opened path s = is_called_for path s && not (is_closed path s)

abbrev pub is_free : Path → Site → Bool
is_free path s = not (is_called_for path s) && not (is_closed path s)

-- some site of the instance is both asked for and closed, so that no feasible plan is in the box
abbrev pub is_torn : Instance → Path → Bool
is_torn I path = list_any (λ s. is_called_for path s && is_closed path s) I.sites

-- the customer's demand alone is within the capacity
abbrev pub holds_demand : Option ℕ → ℕ → Bool
holds_demand None demand = true
holds_demand (Some cap) demand = nat_le demand cap

-- the box lets the site serve the customer
abbrev pub is_allowed : Instance → Path → Site → Customer → Bool
is_allowed I path s c = not (is_torn I path) && is_some (lane I s.id c.id) && not (is_closed path s) && not (list_any (bars_lane s.id c.id) path) && holds_demand s.cap c.demand

-- What a prepared box holds by site and by customer.
use Rattle.std.specs.Prelude.{◌≡◌, ℕ, ◌<◌, ◌≤◌, ◌&&◌, not, Bool, true, false, nat_lt, List, length, slice_index_or}
use Rattle.location_terms.specs.Instance.{Instance, Site, site_at}
use Rattle.location_terms.specs.Box.{Path, is_closed, is_torn, holds_demand}
use Rattle.location_terms.specs.declared.decision.Decision.{Decision}
use Rattle.location_terms.specs.declared.decision.Decision.TheVariants.{Opened, Closed, Yes, No}
use Rattle.location_terms.specs.declared.status.SiteStatus.{SiteStatus}
use Rattle.location_terms.specs.declared.status.SiteStatus.TheVariants.{Free, MustOpen, MustClose}
use Rattle.location_terms.specs.declared.limits.TheConstants.{MAX_AMOUNT}
use Rattle.dual_value.specs.LaneSteps.{AreChains}
use Rattle.dual_value.specs.SiteState.{IsState}
use Rattle.dual_value.specs.declared.settled.SiteState.{SiteState}
use Rattle.dual_value.specs.declared.settled.SiteState.TheVariants as state
use Rattle.dual_value.specs.declared.prepared.PreparedBox.TheInside.{Inside}

-- the state of each site, by place
pub record AreStates (I : Instance) (path : Path) (states : List SiteState) : Type 0 where
  pub count : length states ≡ length I.sites
  pub each : (i : ℕ) (d : SiteState) → i < length I.sites → IsState path (site_at I i) (slice_index_or states i d)

-- the site isn't closed
abbrev pub is_open : SiteState → Bool
is_open state.Opened = true
is_open state.Closed = false
is_open state.Free = true

-- the site may serve just the demands below the end, whatever the steps on lanes take away
abbrev pub IsDemandEnd : Instance → Path → Site → ℕ → Type 0
IsDemandEnd I path s end = (demand : ℕ) → demand ≤ MAX_AMOUNT → nat_lt demand end ≡ (not (is_torn I path) && not (is_closed path s) && holds_demand s.cap demand)

-- the end of the demands that each site may serve, by place
pub record AreDemandEnds (I : Instance) (path : Path) (ends : List ℕ) : Type 0 where
  pub count : length ends ≡ length I.sites
  pub each : (i : ℕ) (d : ℕ) → i < length I.sites → IsDemandEnd I path (site_at I i) (slice_index_or ends i d)

-- what a status alone settles
abbrev pub state_of : SiteStatus → SiteState
state_of MustOpen = state.Opened
state_of MustClose = state.Closed
state_of Free = state.Free

-- the state of a site behind a decision that opens it
abbrev pub opened_by : SiteState → SiteState
opened_by state.Closed = state.Closed
opened_by state.Opened = state.Opened
opened_by state.Free = state.Opened

-- and behind any decision that names it
abbrev pub settled_by : SiteState → Decision → SiteState
settled_by old (Opened s) = opened_by old
settled_by old (Closed s) = state.Closed
settled_by old (Yes s c) = opened_by old
settled_by old (No s c) = old

pub record IsPrepared (a : Inside) : Type 0 where
  pub states : AreStates a.inst.now a.path.now a.states.items
  pub ends : AreDemandEnds a.inst.now a.path.now a.demand_ends.items
  pub chains : AreChains a.inst.now a.path.now a.lane_steps.lasts.items a.lane_steps.befores.items

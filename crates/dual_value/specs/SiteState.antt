-- What is settled of a site.
use Rattle.std.specs.Prelude.{◌≡◌, ℕ, ◌<◌, Bool, false, ◌&&◌, length, Some, IsTrue}
use Rattle.location_terms.specs.Instance.{Instance, Site, site_at}
use Rattle.location_terms.specs.Box.{Path, is_opened, is_closed, is_free, is_called_for}
use Rattle.location_terms.specs.declared.decision.Decision.{Decision}
use Rattle.dual_value.specs.Lanes.{named_site}
use Rattle.dual_value.specs.declared.settled.SiteState.{SiteState}
use Rattle.dual_value.specs.declared.settled.SiteState.TheVariants.{Opened, Closed, Free}

-- the path and the status of the site make it opened, closed or free
abbrev pub IsState : Path → Site → SiteState → Type 0
IsState path s Opened = IsTrue (is_opened path s)
IsState path s Closed = IsTrue (is_closed path s)
IsState path s Free = IsTrue (is_free path s)

-- the site is both called for and closed
abbrev pub is_torn_site : Path → Site → Bool
is_torn_site path s = is_called_for path s && is_closed path s

-- the site that the decision names, where the instance has it, is not both called for and closed
abbrev pub LeavesWhole : Instance → Path → Decision → Type 0
LeavesWhole I path d = (i : ℕ) → i < length I.sites → named_site d ≡ Some (site_at I i).id → is_torn_site path (site_at I i) ≡ false

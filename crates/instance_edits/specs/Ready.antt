-- What an instance needs, kind by kind, so that an edit can be taken back.
use Rattle.std.specs.Prelude.{◌≡◌, ℕ, ◌-◌, ◌≤◌, ◌<◌, false, length}
use Rattle.location_terms.specs.declared.limits.TheConstants.{MAX_AMOUNT, MAX_SITES}
use Rattle.location_terms.specs.Instance.{Instance, AreIds, IsValid, site_ids, customer_ids, site_at, customer_at}
use Rattle.instance_store.specs.Small.{IsSmall}
use Rattle.instance_store.specs.Changes.{without_site, without_customer, with_site_in, with_customer_in}
use Rattle.instance_edits.specs.declared.edit.Inverse.{Inverse}
use Rattle.instance_edits.specs.declared.edit.Inverse.TheVariants.{FormerFixed, FormerLane, FormerDemand, FormerCap, FormerCount, AddedSite, AddedCust, DroppedSite, DroppedCust, FormerStatus}
use Rattle.instance_edits.specs.Edits.{lacks_site, lacks_customer}

-- the ids that are left stay below a next id that falls by one
abbrev pub CanLoseSite : Instance → ℕ → Type 0
CanLoseSite I s = (1 < length I.sites) × AreIds (site_ids (without_site I s)) (I.next_site - 1)

abbrev pub CanLoseCustomer : Instance → ℕ → Type 0
CanLoseCustomer I c = (1 < length I.customers) × AreIds (customer_ids (without_customer I c)) (I.next_customer - 1)

-- a former value is an amount of a site and a customer who are there, what came is the last and isn't alone, and what went fits in
abbrev pub IsReadyFor : Instance → Inverse → Type 0
IsReadyFor I (FormerFixed s cost) = (lacks_site I s ≡ false) × (cost ≤ MAX_AMOUNT)
IsReadyFor I (FormerLane s c cost) = (lacks_site I s ≡ false) × (lacks_customer I c ≡ false) × IsSmall cost
IsReadyFor I (FormerDemand c demand) = (lacks_customer I c ≡ false) × (demand ≤ MAX_AMOUNT)
IsReadyFor I (FormerCap s cap) = (lacks_site I s ≡ false) × IsSmall cap
IsReadyFor I (FormerCount lo hi) = (lo ≤ hi) × (hi ≤ MAX_SITES)
IsReadyFor I (AddedSite s) = ((site_at I (length I.sites - 1)).id ≡ s) × CanLoseSite I s
IsReadyFor I (AddedCust c) = ((customer_at I (length I.customers - 1)).id ≡ c) × CanLoseCustomer I c
IsReadyFor I (DroppedSite place row status) = (place ≤ length I.sites) × (length row.lanes ≡ length I.customers) × IsValid (with_site_in I place row status)
IsReadyFor I (DroppedCust place row lanes) = (place ≤ length I.customers) × (length lanes ≡ length I.sites) × IsValid (with_customer_in I place row lanes)
IsReadyFor I (FormerStatus s status) = lacks_site I s ≡ false

-- Instances of lists: the ids of the sites, and those of the customers, are their places in a list, counted from 1.
use Rattle.std.specs.Prelude.{◌≡◌, ℕ, ◌+◌, ◌≤◌, List, map, length, slice_index_or, All, Option, None}
use Rattle.std.specs.List.{range_with_len, zip}
use Rattle.location_terms.specs.declared.limits.TheConstants.{MAX_AMOUNT, MAX_SITES}
use Rattle.location_terms.specs.declared.status.SiteStatus.TheVariants.{Free}
use Rattle.location_terms.specs.Instance.{Instance, Lanes, AreSizes, lanes_of, lanes_by_customer}
use Rattle.instance_store.specs.declared.rows.SiteRow.{SiteRow}
use Rattle.instance_store.specs.declared.rows.CustRow.{CustRow}
use Rattle.instance_store.specs.declared.numbered.ListedSite.{ListedSite}
use Rattle.instance_store.specs.declared.numbered.SiteLanes.{SiteLanes}
use Rattle.instance_store.specs.declared.numbered.CustLanes.{CustLanes}
use Rattle.instance_store.specs.Small.{IsSmall, AreSmall}

-- the ids of so many
abbrev pub ids_to : ℕ → List ℕ
ids_to n = range_with_len 1 n

-- the elements of a list, each with its id
abbrev pub with_ids : {X : Type 0} → List X → List (ℕ × X)
with_ids xs = zip (ids_to (length xs)) xs

-- listed sites, customers with these demands, and these lanes; each site is free, and any number of sites may open
abbrev pub numbered : List ListedSite → List ℕ → Lanes → Instance
numbered sites demands lanes = record {
  sites = map (λ s. record { id = s.0; fixed = s.1.fixed; cap = s.1.cap; status = Free }) (with_ids sites);
  customers = map (λ c. record { id = c.0; demand = c.1 }) (with_ids demands);
  lanes = lanes;
  lo = 0;
  hi = MAX_SITES;
  next_site = length sites + 1;
  next_customer = length demands + 1;
}

-- the instance of sites that have a row of lanes each, in the order of the customers
abbrev pub numbered_by_site : List SiteLanes → List ℕ → Instance
numbered_by_site sites demands = numbered (map (λ s. s.site) sites) demands (lanes_of (ids_to (length sites)) (ids_to (length demands)) (map (λ s. s.lanes) sites))

-- the instance of customers that have a row of lanes each, in the order of the sites
abbrev pub numbered_by_customer : List ListedSite → List CustLanes → Instance
numbered_by_customer sites custs = numbered sites (map (λ c. c.demand) custs) (lanes_by_customer (ids_to (length sites)) (ids_to (length custs)) (map (λ c. c.lanes) custs))

-- amounts within the limit
pub record IsListed (s : ListedSite) : Type 0 where
  pub fixed_small : s.fixed ≤ MAX_AMOUNT
  pub cap_small : IsSmall s.cap

-- a lane or none for each of so many, all within the limit
pub record IsRow (n : ℕ) (lanes : List (Option ℕ)) : Type 0 where
  pub full : length lanes ≡ n
  pub small : AreSmall lanes

-- lists that make a valid instance
pub record AreSiteRows (sites : List SiteLanes) (demands : List ℕ) : Type 0 where
  pub sizes : AreSizes (length sites) (length demands)
  pub listed : All (λ s. IsListed s.site) sites
  pub rows : All (λ s. IsRow (length demands) s.lanes) sites
  pub demands_small : All (λ d. d ≤ MAX_AMOUNT) demands

pub record AreCustRows (sites : List ListedSite) (custs : List CustLanes) : Type 0 where
  pub sizes : AreSizes (length sites) (length custs)
  pub listed : All IsListed sites
  pub rows : All (λ c. IsRow (length sites) c.lanes) custs
  pub demands_small : All (λ c. c.demand ≤ MAX_AMOUNT) custs

-- how the lists become rows: a listed site with its id, a demand with its id, and the lanes down a column of the customers' rows
abbrev pub numbered_row : ℕ × SiteLanes → SiteRow
numbered_row s = record { id = s.0; fixed = s.1.site.fixed; cap = s.1.site.cap; lanes = s.1.lanes }

abbrev pub numbered_customer : ℕ × ℕ → CustRow
numbered_customer c = record { id = c.0; demand = c.1 }

abbrev pub column_at : ℕ → List CustLanes → List (Option ℕ)
column_at i custs = map (λ c. slice_index_or c.lanes i None) custs

abbrev pub columns_of : List ListedSite → List CustLanes → List SiteLanes
columns_of sites custs = map (λ s. record { site = s.1; lanes = column_at s.0 custs }) (zip (range_with_len 0 (length sites)) sites)

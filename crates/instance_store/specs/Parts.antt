-- The parts that an instance is made of, as rows by place, and the instance that they make.
use Rattle.std.specs.Prelude.{◌≡◌, ℕ, ◌≤◌, List, map, length, All}
use Rattle.location_terms.specs.declared.limits.TheConstants.{MAX_AMOUNT, MAX_SITES}
use Rattle.location_terms.specs.declared.status.SiteStatus.{SiteStatus}
use Rattle.location_terms.specs.declared.status.SiteStatus.TheVariants.{Free}
use Rattle.location_terms.specs.Instance.{Instance, Site, Customer, AreIds, AreSizes, lanes_of}
use Rattle.instance_store.specs.declared.rows.CustRow.{CustRow}
use Rattle.instance_store.specs.declared.rows.SiteRow.{SiteRow}
use Rattle.instance_store.specs.Small.{IsSmall, AreSmall}

-- the site of a row with this status
abbrev pub site_of : SiteStatus → SiteRow → Site
site_of status row = record { id = row.id; fixed = row.fixed; cap = row.cap; status = status }

abbrev pub customer_of : CustRow → Customer
customer_of row = record { id = row.id; demand = row.demand }

abbrev pub site_row_ids : List SiteRow → List ℕ
site_row_ids sites = map (λ s. s.id) sites

abbrev pub cust_row_ids : List CustRow → List ℕ
cust_row_ids custs = map (λ c. c.id) custs

-- the instance of these rows, each site free
abbrev pub instance_of : ℕ → ℕ → ℕ → ℕ → List CustRow → List SiteRow → Instance
instance_of lo hi next_site next_cust custs sites = record {
  sites = map (site_of Free) sites;
  customers = map customer_of custs;
  lanes = lanes_of (site_row_ids sites) (cust_row_ids custs) (map (λ s. s.lanes) sites);
  lo = lo;
  hi = hi;
  next_site = next_site;
  next_customer = next_cust;
}

-- rows that make a valid instance: ids that rise, a lane or none for each customer, and all within the limits
pub record AreParts (lo hi next_site next_cust : ℕ) (custs : List CustRow) (sites : List SiteRow) : Type 0 where
  pub sites_named : AreIds (site_row_ids sites) next_site
  pub customers_named : AreIds (cust_row_ids custs) next_cust
  pub rows_full : All (λ s. length s.lanes ≡ length custs) sites
  pub lanes_small : All (λ s. AreSmall s.lanes) sites
  pub fixed_small : All (λ s. s.fixed ≤ MAX_AMOUNT) sites
  pub caps_small : All (λ s. IsSmall s.cap) sites
  pub demands_small : All (λ c. c.demand ≤ MAX_AMOUNT) custs
  pub sizes : AreSizes (length sites) (length custs)
  pub count_order : lo ≤ hi
  pub count_small : hi ≤ MAX_SITES

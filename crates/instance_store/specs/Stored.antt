-- How an instance is stored: rows by place with a status each, and the ids of both kinds, by which the places are found.
use Rattle.std.specs.Prelude.{◌≡◌, ℕ, List, Option, map, length, All}
use Rattle.location_terms.specs.Instance.{Instance, Site, IsValid, lanes_of}
use Rattle.instance_store.specs.Parts.{site_of, customer_of, cust_row_ids}
use Rattle.location_terms.specs.declared.status.SiteStatus.TheVariants.{Free}
use Rattle.instance_store.specs.declared.rows.SiteRow.{SiteRow}
use Rattle.instance_store.specs.declared.instance.StoredSite.{StoredSite}
use Rattle.instance_store.specs.declared.instance.Instance.TheInside.{Inside}

abbrev pub site_in : StoredSite → Site
site_in s = site_of s.status s.row

abbrev pub stored_ids : List StoredSite → List ℕ
stored_ids sites = map (λ s. s.row.id) sites

abbrev pub stored_rows : List StoredSite → List (List (Option ℕ))
stored_rows sites = map (λ s. s.row.lanes) sites

-- the instance that is stored
abbrev pub stored_instance : Inside → Instance
stored_instance a = record {
  sites = map site_in a.sites.items;
  customers = map customer_of a.custs.items;
  lanes = lanes_of (stored_ids a.sites.items) (cust_row_ids a.custs.items) (stored_rows a.sites.items);
  lo = a.lo;
  hi = a.hi;
  next_site = a.next_site;
  next_customer = a.next_cust;
}

pub record IsStored (a : Inside) : Type 0 where
  pub valid : IsValid (stored_instance a)
  pub rows_full : All (λ s. length s.row.lanes ≡ length a.custs.items) a.sites.items
  pub site_places : a.site_places.keys ≡ stored_ids a.sites.items
  pub cust_places : a.cust_places.keys ≡ cust_row_ids a.custs.items

-- a row as it comes
abbrev pub free_site : SiteRow → StoredSite
free_site row = record { row = row; status = Free }

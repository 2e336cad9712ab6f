-- Changes of an instance: what stands at one id replaced, and sites and customers that come and go with their lanes.
use Rattle.std.specs.Prelude.{ℕ, ◌==◌, not, List, map, filter, fold, insert, Option, None, Some, if◌then◌else◌}
use Rattle.std.specs.FinMap as map_of
use Rattle.location_terms.specs.declared.status.SiteStatus.{SiteStatus}
use Rattle.location_terms.specs.Instance.{Instance, Site, Customer, Lanes, site_ids, customer_ids, lane, row_entries}
use Rattle.instance_store.specs.declared.rows.SiteRow.{SiteRow}
use Rattle.instance_store.specs.declared.rows.CustRow.{CustRow}
use Rattle.instance_store.specs.Parts.{site_of, customer_of}
use Rattle.instance_store.specs.Places.{lanes_from}

-- What stands at one id.

-- the instance with the site of this id changed so
abbrev pub with_site : Instance → ℕ → (Site → Site) → Instance
with_site I s change = record I { sites = map (λ x. if x.id == s then change x else x) I.sites }

-- the site of this id costs so much to open, serves at most so much, has this status
abbrev pub with_fixed : Instance → ℕ → ℕ → Instance
with_fixed I s cost = with_site I s (λ x. record x { fixed = cost })

abbrev pub with_cap : Instance → ℕ → Option ℕ → Instance
with_cap I s cap = with_site I s (λ x. record x { cap = cap })

abbrev pub with_status : Instance → ℕ → SiteStatus → Instance
with_status I s status = with_site I s (λ x. record x { status = status })

-- the instance with the customer of this id changed so
abbrev pub with_customer : Instance → ℕ → (Customer → Customer) → Instance
with_customer I c change = record I { customers = map (λ x. if x.id == c then change x else x) I.customers }

-- the customer of this id demands so much
abbrev pub with_demand : Instance → ℕ → ℕ → Instance
with_demand I c demand = with_customer I c (λ x. record x { demand = demand })

-- the lanes, where that from a site to a customer has this cost, or isn't there
abbrev pub lanes_with : Lanes → ℕ → ℕ → Option ℕ → Lanes
lanes_with lanes s c (Some cost) = map_of.insert lanes (s, c) cost
lanes_with lanes s c None = map_of.remove lanes (s, c)

abbrev pub with_lane_cost : Instance → ℕ → ℕ → Option ℕ → Instance
with_lane_cost I s c cost = record I { lanes = lanes_with I.lanes s c cost }

abbrev pub with_count : Instance → ℕ → ℕ → Instance
with_count I lo hi = record I { lo = lo; hi = hi }

-- the instance whose next site and next customer to come get these ids
abbrev pub with_next_ids : Instance → ℕ → ℕ → Instance
with_next_ids I next_site next_customer = record I { next_site = next_site; next_customer = next_customer }

-- What goes.

-- the lanes without those of a site, and without those of a customer
abbrev pub lanes_without_site : Lanes → ℕ → Lanes
lanes_without_site lanes s = map_of.retain_keys lanes (λ pair. not (pair.0 == s))

abbrev pub lanes_without_customer : Lanes → ℕ → Lanes
lanes_without_customer lanes c = map_of.retain_keys lanes (λ pair. not (pair.1 == c))

-- the instance without the site of this id and its lanes; the next id stays
abbrev pub without_site : Instance → ℕ → Instance
without_site I s = record I { sites = filter (λ x. not (x.id == s)) I.sites; lanes = lanes_without_site I.lanes s }

-- the instance without the customer of this id and its lanes; the next id stays
abbrev pub without_customer : Instance → ℕ → Instance
without_customer I c = record I { customers = filter (λ x. not (x.id == c)) I.customers; lanes = lanes_without_customer I.lanes c }

-- a site as a row, with its lanes to the customers in their order
abbrev pub site_row : Instance → Site → SiteRow
site_row I x = record { id = x.id; fixed = x.fixed; cap = x.cap; lanes = lanes_from I x }

abbrev pub cust_row : Customer → CustRow
cust_row x = record { id = x.id; demand = x.demand }

-- the lanes to a customer from the sites, in their order
abbrev pub column_of : Instance → ℕ → List (Option ℕ)
column_of I c = map (λ x. lane I x.id c) I.sites

-- What comes.

-- the lanes and these besides, each with its pair of ids
abbrev pub lanes_and : Lanes → List ((ℕ × ℕ) × ℕ) → Lanes
lanes_and lanes entries = fold (λ m e. map_of.insert m e.0 e.1) lanes entries

-- the lanes and those of a site to customers, whose ids stand in the order of its row
abbrev pub with_row : Lanes → ℕ → List ℕ → List (Option ℕ) → Lanes
with_row lanes s customers row = lanes_and lanes (row_entries (λ c. (s, c)) customers row)

-- the lanes and those to a customer from sites, whose ids stand in the order of its column
abbrev pub with_column : Lanes → ℕ → List ℕ → List (Option ℕ) → Lanes
with_column lanes c sites column = lanes_and lanes (row_entries (λ s. (s, c)) sites column)

-- the instance with one more site at a place, counted from 0, and the lanes of its row; the next id stays
abbrev pub with_site_in : Instance → ℕ → SiteRow → SiteStatus → Instance
with_site_in I place row status = record I {
  sites = insert I.sites place (site_of status row);
  lanes = with_row I.lanes row.id (customer_ids I) row.lanes;
}

-- the instance with one more customer at a place, counted from 0, and its lanes from the sites in their order; the next id stays
abbrev pub with_customer_in : Instance → ℕ → CustRow → List (Option ℕ) → Instance
with_customer_in I place row column = record I {
  customers = insert I.customers place (customer_of row);
  lanes = with_column I.lanes row.id (site_ids I) column;
}

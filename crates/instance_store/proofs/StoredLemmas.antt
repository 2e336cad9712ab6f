-- What is read of a stored instance is what the instance has.
use Rattle.std.proofs.Common.{◌≡◌, ℕ, ◌<◌, ◌≤◌, ◌↔◌, nat_eq, List, [], map, length, position, All, Contains, Option, None, IfSome, IsSome, slice_index, slice_index_or, get_or, sym, ap, subst, ◌∙◌, arith}
use Rattle.std.proofs.lemmas.List.{length-map, get_or-map}
use Rattle.std.proofs.lemmas.List.Elements.{All-map}
use Rattle.std.proofs.lemmas.Option.{IfSome_then}
use Rattle.std.proofs.lemmas.Simd.{map-map}
use Rattle.std.specs.List.Sorted.{IsStrictlyIncreasing}
use Rattle.location_terms.specs.declared.limits.TheConstants.{MAX_AMOUNT}
use Rattle.location_terms.specs.declared.status.SiteStatus.TheVariants.{Free}
use Rattle.location_terms.specs.Instance.{Instance, Site, Customer, AreIds, IsValid, site_ids, customer_ids, site_at, customer_at, lane, lanes_of, AreSizes}
use Rattle.location_terms.proofs.Places.{length-site_ids, length-customer_ids, slice_index-site_ids, slice_index-customer_ids}
use Rattle.location_terms.proofs.Table.{IsTable, get-lanes_of, map-lanes_of, lanes_of_known, lanes_of_all}
use Rattle.instance_store.specs.declared.rows.SiteRow.{SiteRow}
use Rattle.instance_store.specs.declared.rows.CustRow.{CustRow}
use Rattle.instance_store.specs.declared.instance.StoredSite.{StoredSite}
use Rattle.instance_store.specs.declared.instance.Instance.TheInside.{Inside}
use Rattle.instance_store.specs.Small.{IsSmall, AreSmall}
use Rattle.instance_store.specs.Parts.{site_of, customer_of, site_row_ids, cust_row_ids, instance_of, AreParts}
use Rattle.instance_store.specs.Places.{lanes_from, place_of}
use Rattle.instance_store.specs.Changes.{site_row}
use Rattle.instance_store.specs.Stored.{site_in, free_site, stored_ids, stored_rows, stored_instance, IsStored}
use Rattle.instance_store.proofs.PlaceLemmas.{position-turned, place_of_found, place_of_known}

-- the ids of the rows are those of the instance
pub site_ids-stored : (a : Inside) → site_ids (stored_instance a) ≡ stored_ids a.sites.items
site_ids-stored a = map-map (λ s. s.id) site_in a.sites.items

pub customer_ids-stored : (a : Inside) → customer_ids (stored_instance a) ≡ cust_row_ids a.custs.items
customer_ids-stored a = map-map (λ c. c.id) customer_of a.custs.items

-- the rows are a table
pub table-stored : (a : Inside) → IsStored a → IsTable (stored_ids a.sites.items) (cust_row_ids a.custs.items) (stored_rows a.sites.items)
table-stored a stored = record {
  sites_rise = subst IsStrictlyIncreasing (site_ids-stored a) stored.valid.sites_named.rising;
  customers_rise = subst IsStrictlyIncreasing (customer_ids-stored a) stored.valid.customers_named.rising;
  row_each = length-map a.sites.items (λ s. s.row.lanes) ∙ sym (length-map a.sites.items (λ s. s.row.id));
  entry_each =
      All-map (λ row. length row ≡ length (cust_row_ids a.custs.items)) (λ (s : StoredSite). s.row.lanes) a.sites.items
      (λ k d below. stored.rows_full k d below ∙ sym (length-map a.custs.items (λ c. c.id)));
}

module _ (a : Inside) (stored : IsStored a) (i : ℕ) (x : StoredSite) (within : i < length a.sites.items) (item : x ≡ slice_index_or a.sites.items i x) where
  row-stored : slice_index_or (stored_rows a.sites.items) i [] ≡ x.row.lanes
  row-stored = get_or-map (λ s. s.row.lanes) a.sites.items i x [] within ∙ ap (λ s. s.row.lanes) (sym item)

  id-stored : slice_index (stored_ids a.sites.items) i ≡ (site_at (stored_instance a) i).id
  id-stored = ap (λ ids. slice_index ids i) (sym (site_ids-stored a)) ∙ slice_index-site_ids (stored_instance a) i (omega (arith, length-map a.sites.items site_in))

  lane-stored : (j : ℕ) → j < length a.custs.items → slice_index_or x.row.lanes j None ≡ lane (stored_instance a) (site_at (stored_instance a) i).id (customer_at (stored_instance a) j).id
  lane-stored j inside =
      let cust : slice_index (cust_row_ids a.custs.items) j ≡ (customer_at (stored_instance a) j).id =
      ap (λ ids. slice_index ids j) (sym (customer_ids-stored a)) ∙ slice_index-customer_ids (stored_instance a) j (omega (arith, length-map a.custs.items customer_of)) in
      ap (λ row. slice_index_or row j None) (sym row-stored)
      ∙ sym (get-lanes_of (stored_ids a.sites.items) (cust_row_ids a.custs.items) (stored_rows a.sites.items) (table-stored a stored) i j
      (omega (arith, length-map a.sites.items (λ s. s.row.id))) (omega (arith, length-map a.custs.items (λ c. c.id))))
      ∙ (λ k. lane (stored_instance a) (id-stored k) (cust k))

  lanes-stored : x.row.lanes ≡ lanes_from (stored_instance a) (site_at (stored_instance a) i)
  lanes-stored =
      sym row-stored
      ∙ sym (map-lanes_of (stored_ids a.sites.items) (cust_row_ids a.custs.items) (stored_rows a.sites.items) (table-stored a stored) i (omega (arith, length-map a.sites.items (λ s. s.row.id))))
      ∙ map-map (λ c. lane (stored_instance a) (slice_index (stored_ids a.sites.items) i) c) (λ (c : CustRow). c.id) a.custs.items
      ∙ sym (map-map (λ c. lane (stored_instance a) (slice_index (stored_ids a.sites.items) i) c.id) customer_of a.custs.items)
      ∙ ap (λ s. map (λ c. lane (stored_instance a) s c.id) (stored_instance a).customers) id-stored

-- the same at the value that a clause sees
module _ (a : Inside) (stored : IsStored a) (I : Instance) (view : stored_instance a ≡ I) where
  pub valid-seen : IsValid I
  valid-seen = subst IsValid view stored.valid

  pub sites-seen : length a.sites.items ≡ length I.sites
  sites-seen = sym (length-map a.sites.items site_in) ∙ ap (λ (J : Instance). length J.sites) view

  pub customers-seen : length a.custs.items ≡ length I.customers
  customers-seen = sym (length-map a.custs.items customer_of) ∙ ap (λ (J : Instance). length J.customers) view

  pub lane-seen : (i j : ℕ) (x : StoredSite) → i < length I.sites → j < length I.customers → x ≡ slice_index_or a.sites.items i x → slice_index_or x.row.lanes j None ≡ lane I (site_at I i).id (customer_at I j).id
  lane-seen i j x within inside item =
      subst (λ (J : Instance). slice_index_or x.row.lanes j None ≡ lane J (site_at J i).id (customer_at J j).id) view
      (lane-stored a stored i x (omega (arith, within, sites-seen)) item j (omega (arith, inside, customers-seen)))

  pub lanes-seen : (i : ℕ) (x : StoredSite) → i < length I.sites → x ≡ slice_index_or a.sites.items i x → x.row.lanes ≡ lanes_from I (site_at I i)
  lanes-seen i x within item =
      subst (λ (J : Instance). x.row.lanes ≡ lanes_from J (site_at J i)) view (lanes-stored a stored i x (omega (arith, within, sites-seen)) item)

  pub site-seen : (i : ℕ) (x : StoredSite) → i < length I.sites → x ≡ slice_index_or a.sites.items i x → site_in x ≡ site_at I i
  site-seen i x within item = ap site_in item ∙ sym (get_or-map site_in a.sites.items i x _ (omega (arith, within, sites-seen))) ∙ ap (λ (J : Instance). site_at J i) view

  pub site_row-seen : (i : ℕ) (x : StoredSite) → i < length I.sites → x ≡ slice_index_or a.sites.items i x → x.row ≡ site_row I (site_at I i)
  site_row-seen i x within item =
      let site : site_in x ≡ site_at I i = site-seen i x within item in
      let lanes = lanes-seen i x within item in
      λ k. record { id = (site k).id; fixed = (site k).fixed; cap = (site k).cap; lanes = lanes k }

  pub customer-seen : (j : ℕ) (x : CustRow) → j < length I.customers → x ≡ slice_index_or a.custs.items j x → customer_of x ≡ customer_at I j
  customer-seen j x inside item = ap customer_of item ∙ sym (get_or-map customer_of a.custs.items j x _ (omega (arith, inside, customers-seen))) ∙ ap (λ (J : Instance). customer_at J j) view

  pub fixed-small : (i : ℕ) (x : StoredSite) → i < length I.sites → x ≡ slice_index_or a.sites.items i x → x.row.fixed ≤ MAX_AMOUNT
  fixed-small i x within item =
      let inside : i < length a.sites.items = omega (arith, within, sites-seen) in
      subst (λ n. n ≤ MAX_AMOUNT) (ap (λ s. s.fixed) (get_or-map site_in a.sites.items i x (site_in x) inside) ∙ ap (λ s. s.row.fixed) (sym item))
      (stored.valid.fixed_small i (site_in x) (omega (arith, inside, length-map a.sites.items site_in)))

  pub cap-small : (i : ℕ) (x : StoredSite) → i < length I.sites → x ≡ slice_index_or a.sites.items i x → IsSmall x.row.cap
  cap-small i x within item =
      let inside : i < length a.sites.items = omega (arith, within, sites-seen) in
      subst IsSmall (ap (λ s. s.cap) (get_or-map site_in a.sites.items i x (site_in x) inside) ∙ ap (λ s. s.row.cap) (sym item))
      (stored.valid.caps_small i (site_in x) (omega (arith, inside, length-map a.sites.items site_in)))

  pub demand-small : (j : ℕ) (x : CustRow) → j < length I.customers → x ≡ slice_index_or a.custs.items j x → x.demand ≤ MAX_AMOUNT
  demand-small j x inside item =
      let within : j < length a.custs.items = omega (arith, inside, customers-seen) in
      subst (λ n. n ≤ MAX_AMOUNT) (ap (λ c. c.demand) (get_or-map customer_of a.custs.items j x (customer_of x) within) ∙ ap (λ c. c.demand) (sym item))
      (stored.valid.demands_small j (customer_of x) (omega (arith, within, length-map a.custs.items customer_of)))

  -- what the look-up of a number gives is the place of the id
  pub site_place-seen : (id n : ℕ) (r : Option ℕ) → r ≡ position (nat_eq n) a.site_places.keys → n ≡ id → r ≡ place_of id (site_ids I)
  site_place-seen id n r found same =
      found ∙ (λ k. position (nat_eq (same k)) (stored.site_places k)) ∙ position-turned id (stored_ids a.sites.items)
      ∙ ap (place_of id) (sym (site_ids-stored a)) ∙ ap (λ (J : Instance). place_of id (site_ids J)) view

  pub cust_place-seen : (id n : ℕ) (r : Option ℕ) → r ≡ position (nat_eq n) a.cust_places.keys → n ≡ id → r ≡ place_of id (customer_ids I)
  cust_place-seen id n r found same =
      found ∙ (λ k. position (nat_eq (same k)) (stored.cust_places k)) ∙ position-turned id (cust_row_ids a.custs.items)
      ∙ ap (place_of id) (sym (customer_ids-stored a)) ∙ ap (λ (J : Instance). place_of id (customer_ids J)) view

-- the lanes of a valid instance are small
pub lanes-small : (I : Instance) → IsValid I → (s : Site) → AreSmall (lanes_from I s)
lanes-small I valid s = All-map IsSmall (λ (c : Customer). lane I s.id c.id) I.customers (λ k d below. valid.lanes_small s.id (get_or I.customers k d).id)

-- at the place of an id stands the site of that id, and there is a place just where there is the id
pub site-found : (I : Instance) (id : ℕ) (r : Option ℕ) → r ≡ place_of id (site_ids I) → IfSome r (λ i. (i < length I.sites) × ((site_at I i).id ≡ id))
site-found I id r place =
    subst (λ o. IfSome o (λ i. (i < length I.sites) × ((site_at I i).id ≡ id))) (sym place)
    (IfSome_then (place_of id (site_ids I)) (place_of_found id (site_ids I)) (λ i at.
    let within : i < length I.sites = omega (arith, at.0, length-site_ids I) in (within, sym (slice_index-site_ids I i within) ∙ at.1)))

pub site-known : (I : Instance) (id : ℕ) (r : Option ℕ) → r ≡ place_of id (site_ids I) → IsSome r ↔ Contains (site_ids I) id
site-known I id r place = subst (λ o. IsSome o ↔ Contains (site_ids I) id) (sym place) (place_of_known id (site_ids I))

pub cust-found : (I : Instance) (id : ℕ) (r : Option ℕ) → r ≡ place_of id (customer_ids I) → IfSome r (λ j. (j < length I.customers) × ((customer_at I j).id ≡ id))
cust-found I id r place =
    subst (λ o. IfSome o (λ j. (j < length I.customers) × ((customer_at I j).id ≡ id))) (sym place)
    (IfSome_then (place_of id (customer_ids I)) (place_of_found id (customer_ids I)) (λ j at.
    let within : j < length I.customers = omega (arith, at.0, length-customer_ids I) in (within, sym (slice_index-customer_ids I j within) ∙ at.1)))

pub cust-known : (I : Instance) (id : ℕ) (r : Option ℕ) → r ≡ place_of id (customer_ids I) → IsSome r ↔ Contains (customer_ids I) id
cust-known I id r place = subst (λ o. IsSome o ↔ Contains (customer_ids I) id) (sym place) (place_of_known id (customer_ids I))

module _ (lo hi next_site next_cust : ℕ) (custs : List CustRow) (sites : List SiteRow) where
  -- parts make a valid instance
  pub IsValid-instance_of : AreParts lo hi next_site next_cust custs sites → IsValid (instance_of lo hi next_site next_cust custs sites)
  IsValid-instance_of parts =
      let site_ids_are : map (λ s. s.id) (map (site_of Free) sites) ≡ site_row_ids sites = map-map (λ s. s.id) (site_of Free) sites in
      let cust_ids_are : map (λ c. c.id) (map customer_of custs) ≡ cust_row_ids custs = map-map (λ c. c.id) customer_of custs in
      let site_count = length-map sites (site_of Free) in
      let cust_count = length-map custs customer_of in
      record {
        sites_named = subst (λ ids. AreIds ids next_site) (sym site_ids_are) parts.sites_named;
        customers_named = subst (λ ids. AreIds ids next_cust) (sym cust_ids_are) parts.customers_named;
        lanes_known = λ s c there.
            let known = lanes_of_known (site_row_ids sites) (cust_row_ids custs) (map (λ r. r.lanes) sites) s c there in
            (subst (λ ids. Contains ids s) (sym site_ids_are) known.0, subst (λ ids. Contains ids c) (sym cust_ids_are) known.1);
        lanes_small = λ s c. lanes_of_all (λ n. n ≤ MAX_AMOUNT) (site_row_ids sites) (cust_row_ids custs) (map (λ r. r.lanes) sites) (All-map (All IsSmall) (λ (r : SiteRow). r.lanes) sites parts.lanes_small) s c;
        fixed_small = All-map (λ s. s.fixed ≤ MAX_AMOUNT) (site_of Free) sites parts.fixed_small;
        caps_small = All-map (λ s. IsSmall s.cap) (site_of Free) sites parts.caps_small;
        demands_small = All-map (λ c. c.demand ≤ MAX_AMOUNT) customer_of custs parts.demands_small;
        sizes = subst (λ m. AreSizes m (length (map customer_of custs))) (sym site_count) (subst (AreSizes (length sites)) (sym cust_count) parts.sizes);
        count_order = parts.count_order;
        count_small = parts.count_small;
      }

-- the rows as they come, each free, are stored as the instance of the parts
module _ (a : Inside) (sites : List SiteRow) (free : a.sites.items ≡ map free_site sites) where
  pub stored-instance_of : stored_instance a ≡ instance_of a.lo a.hi a.next_site a.next_cust a.custs.items sites
  stored-instance_of =
      let the_sites : map site_in a.sites.items ≡ map (site_of Free) sites = ap (map site_in) free ∙ map-map site_in free_site sites in
      let the_ids : stored_ids a.sites.items ≡ site_row_ids sites = ap stored_ids free ∙ map-map (λ s. s.row.id) free_site sites in
      let the_rows : stored_rows a.sites.items ≡ map (λ r. r.lanes) sites = ap stored_rows free ∙ map-map (λ s. s.row.lanes) free_site sites in
      λ k. record {
        sites = the_sites k;
        customers = map customer_of a.custs.items;
        lanes = lanes_of (the_ids k) (cust_row_ids a.custs.items) (the_rows k);
        lo = a.lo;
        hi = a.hi;
        next_site = a.next_site;
        next_customer = a.next_cust;
      }

  pub IsStored-instance_of : AreParts a.lo a.hi a.next_site a.next_cust a.custs.items sites → a.site_places.keys ≡ site_row_ids sites → a.cust_places.keys ≡ cust_row_ids a.custs.items → IsStored a
  IsStored-instance_of parts places cust_places = record {
    valid = subst IsValid (sym stored-instance_of) (IsValid-instance_of a.lo a.hi a.next_site a.next_cust a.custs.items sites parts);
    rows_full = subst (All (λ s. length s.row.lanes ≡ length a.custs.items)) (sym free) (All-map (λ s. length s.row.lanes ≡ length a.custs.items) free_site sites parts.rows_full);
    site_places = places ∙ sym (ap stored_ids free ∙ map-map (λ s. s.row.id) free_site sites);
    cust_places = cust_places;
  }

-- a copy of all lists is stored as the same instance
module _ (a b : Inside) (lo : b.lo ≡ a.lo) (hi : b.hi ≡ a.hi) (next_site : b.next_site ≡ a.next_site) (next_cust : b.next_cust ≡ a.next_cust)
    (custs : b.custs.items ≡ a.custs.items) (sites : b.sites.items ≡ a.sites.items) (site_places : b.site_places.keys ≡ a.site_places.keys) (cust_places : b.cust_places.keys ≡ a.cust_places.keys) where
  pub stored-copy : stored_instance b ≡ stored_instance a
  stored-copy = λ k. record {
    sites = map site_in (sites k);
    customers = map customer_of (custs k);
    lanes = lanes_of (stored_ids (sites k)) (cust_row_ids (custs k)) (stored_rows (sites k));
    lo = lo k;
    hi = hi k;
    next_site = next_site k;
    next_customer = next_cust k;
  }

  pub IsStored-copy : IsStored a → IsStored b
  IsStored-copy stored = record {
    valid = subst IsValid (sym stored-copy) stored.valid;
    rows_full = subst (λ (p : List CustRow × List StoredSite). All (λ s. length s.row.lanes ≡ length p.0) p.1) (λ k. (sym custs k, sym sites k)) stored.rows_full;
    site_places = site_places ∙ stored.site_places ∙ ap stored_ids (sym sites);
    cust_places = cust_places ∙ stored.cust_places ∙ ap cust_row_ids (sym custs);
  }

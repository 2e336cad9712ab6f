-- An instance in which something is changed of one site, but for its id and its lanes, or of one customer, but for its id: it is valid, and is stored by that one alone.
use Rattle.std.proofs.Common.{◌≡◌, ℕ, ◌<◌, ◌≤◌, ◌==◌, inl, inr, List, map, length, All, Contains, slice_index_or, get_or, set, refl, sym, ap, subst, ◌∙◌, arith, if◌then◌else◌}
use Rattle.std.proofs.lemmas.Bool.{cases_eq, ne_eqb, eq-eqb}
use Rattle.std.proofs.lemmas.List.{length-set, length-map, get_or-map, get_or_default, map-set, get_or-set_same, get_or-set_other, same_lists}
use Rattle.std.proofs.lemmas.List.Elements.{All-set}
use Rattle.std.proofs.Math.Seq.{map-set_same}
use Rattle.std.specs.List.Sorted.{IsStrictlyIncreasing}
use Rattle.std.specs.Vec.{with_item}
use Rattle.location_terms.specs.declared.limits.TheConstants.{MAX_AMOUNT}
use Rattle.location_terms.specs.Instance.{Instance, Site, Customer, AreIds, AreSizes, IsValid, site_ids, customer_ids, site_at, customer_at, lanes_of}
use Rattle.location_terms.proofs.Rising.{one_place}
use Rattle.instance_store.specs.declared.rows.CustRow.{CustRow}
use Rattle.instance_store.specs.declared.instance.StoredSite.{StoredSite}
use Rattle.instance_store.specs.declared.instance.Instance.TheInside.{Inside}
use Rattle.instance_store.specs.Small.{IsSmall}
use Rattle.instance_store.specs.Parts.{customer_of, cust_row_ids}
use Rattle.instance_store.specs.Changes.{with_site, with_customer}
use Rattle.instance_store.specs.Stored.{site_in, stored_ids, stored_rows, stored_instance, IsStored}

-- where keys rise, what stands at the key of a place is what stands at that place
module _ {X : Type 0} (key : X → ℕ) (change : X → X) (xs : List X) (i : ℕ) (x : X) (rise : IsStrictlyIncreasing (map key xs)) (within : i < length xs) where
  abbrev at : X
  at = get_or xs i x

  abbrev f : X → X
  f = λ y. if key y == key at then change y else y

  abbrev ys : List X
  ys = set xs i (change at)

  each : (k : ℕ) (d : X) → k < length xs → f (get_or xs k x) ≡ get_or ys k d
  each k d inside =
      elim (cases_eq k i) [
        | inl same ↦
            ap (λ n. f (get_or xs n x)) same
            ∙ ap (λ b. if b then change at else at) (eq-eqb (key at) (key at) refl)
            ∙ sym (ap (λ n. get_or ys n d) same ∙ get_or-set_same xs i (change at) d within)
        | inr apart ↦
            ap (λ b. if b then change (get_or xs k x) else get_or xs k x) (ne_eqb (key (get_or xs k x)) (key at) (λ same. apart (one_place key xs x rise k i inside within same)))
            ∙ get_or_default xs k x d inside
            ∙ sym (get_or-set_other xs i k (change at) d apart)
      ]

  pub map-at_key : map (λ y. if key y == key (get_or xs i x) then change y else y) xs ≡ set xs i (change (get_or xs i x))
  map-at_key =
      same_lists (map f xs) ys (length-map xs f ∙ sym (length-set xs i (change at))) (λ k d below.
      let inside : k < length xs = omega (arith, below, length-map xs f) in
      get_or-map f xs k x d inside ∙ each k d inside)

-- validity speaks of a site's id and amounts alone
pub IsValid-site_set : (I : Instance) (i : ℕ) (x : Site) → i < length I.sites → x.id ≡ (site_at I i).id → x.fixed ≤ MAX_AMOUNT → IsSmall x.cap → IsValid I → IsValid (record I { sites = set I.sites i x })
IsValid-site_set I i x within same fixed cap valid =
    let ids : map (λ (s : Site). s.id) (set I.sites i x) ≡ site_ids I = map-set_same (λ (s : Site). s.id) I.sites i x _ same in
    record {
      sites_named = subst (λ ids. AreIds ids I.next_site) (sym ids) valid.sites_named;
      customers_named = valid.customers_named;
      lanes_known = λ s c there. let known = valid.lanes_known s c there in (subst (λ ids. Contains ids s) (sym ids) known.0, known.1);
      lanes_small = valid.lanes_small;
      fixed_small = All-set (λ (s : Site). s.fixed ≤ MAX_AMOUNT) I.sites i x fixed valid.fixed_small;
      caps_small = All-set (λ (s : Site). IsSmall s.cap) I.sites i x cap valid.caps_small;
      demands_small = valid.demands_small;
      sizes = subst (λ m. AreSizes m (length I.customers)) (sym (length-set I.sites i x)) valid.sizes;
      count_order = valid.count_order;
      count_small = valid.count_small;
    }

pub IsValid-customer_set : (I : Instance) (j : ℕ) (x : Customer) → j < length I.customers → x.id ≡ (customer_at I j).id → x.demand ≤ MAX_AMOUNT → IsValid I → IsValid (record I { customers = set I.customers j x })
IsValid-customer_set I j x within same demand valid =
    let ids : map (λ (c : Customer). c.id) (set I.customers j x) ≡ customer_ids I = map-set_same (λ (c : Customer). c.id) I.customers j x _ same in
    record {
      sites_named = valid.sites_named;
      customers_named = subst (λ ids. AreIds ids I.next_customer) (sym ids) valid.customers_named;
      lanes_known = λ s c there. let known = valid.lanes_known s c there in (known.0, subst (λ ids. Contains ids c) (sym ids) known.1);
      lanes_small = valid.lanes_small;
      fixed_small = valid.fixed_small;
      caps_small = valid.caps_small;
      demands_small = All-set (λ (c : Customer). c.demand ≤ MAX_AMOUNT) I.customers j x demand valid.demands_small;
      sizes = subst (AreSizes (length I.sites)) (sym (length-set I.customers j x)) valid.sizes;
      count_order = valid.count_order;
      count_small = valid.count_small;
    }

module _ (a : Inside) (stored : IsStored a) (I : Instance) (view : stored_instance a ≡ I) where
  -- the site at i is x, and y comes in its place
  module _ (i : ℕ) (x y : StoredSite) (change : Site → Site) (within : i < length I.sites) (item : x ≡ slice_index_or a.sites.items i x)
      (same_id : y.row.id ≡ x.row.id) (same_lanes : y.row.lanes ≡ x.row.lanes) (changed : site_in y ≡ change (site_in x)) where
    abbrev with_y : Inside
    with_y = record a { sites = with_item a.sites i y }

    inside : i < length a.sites.items
    inside = omega (arith, within, length-map a.sites.items site_in, ap (λ (J : Instance). length J.sites) view)

    ids-kept : stored_ids with_y.sites.items ≡ stored_ids a.sites.items
    ids-kept = map-set_same (λ (s : StoredSite). s.row.id) a.sites.items i y x (same_id ∙ ap (λ (s : StoredSite). s.row.id) item)

    rows-kept : stored_rows with_y.sites.items ≡ stored_rows a.sites.items
    rows-kept = map-set_same (λ (s : StoredSite). s.row.lanes) a.sites.items i y x (same_lanes ∙ ap (λ (s : StoredSite). s.row.lanes) item)

    site-is : site_in x ≡ site_at (stored_instance a) i
    site-is = ap site_in item ∙ sym (get_or-map site_in a.sites.items i x _ inside)

    stored-set : stored_instance with_y ≡ record (stored_instance a) { sites = set (stored_instance a).sites i (site_in y) }
    stored-set = λ k. record {
      sites = map-set site_in a.sites.items i y k;
      customers = map customer_of a.custs.items;
      lanes = lanes_of (ids-kept k) (cust_row_ids a.custs.items) (rows-kept k);
      lo = a.lo;
      hi = a.hi;
      next_site = a.next_site;
      next_customer = a.next_cust;
    }

    sites-are : set (stored_instance a).sites i (site_in y) ≡ (with_site (stored_instance a) (site_at (stored_instance a) i).id change).sites
    sites-are =
        ap (set (stored_instance a).sites i) (changed ∙ ap change site-is)
        ∙ sym (map-at_key (λ (s : Site). s.id) change (stored_instance a).sites i _ stored.valid.sites_named.rising (omega (arith, inside, length-map a.sites.items site_in)))

    pub stored-with_site : stored_instance with_y ≡ with_site I (site_at I i).id change
    stored-with_site = stored-set ∙ ap (λ (sites : List Site). record (stored_instance a) { sites = sites }) sites-are ∙ ap (λ (J : Instance). with_site J (site_at J i).id change) view

    pub IsStored-with_site : y.row.fixed ≤ MAX_AMOUNT → IsSmall y.row.cap → IsStored with_y
    IsStored-with_site fixed cap = record {
      valid =
          subst IsValid (sym stored-set)
          (IsValid-site_set (stored_instance a) i (site_in y) (omega (arith, inside, length-map a.sites.items site_in)) (same_id ∙ ap (λ (s : Site). s.id) site-is) fixed cap stored.valid);
      rows_full =
          All-set (λ (s : StoredSite). length s.row.lanes ≡ length a.custs.items) a.sites.items i y
          (ap length same_lanes ∙ ap (λ (s : StoredSite). length s.row.lanes) item ∙ stored.rows_full i x inside) stored.rows_full;
      site_places = stored.site_places ∙ sym ids-kept;
      cust_places = stored.cust_places;
    }

  -- the customer at j is x, and y comes in its place
  module _ (j : ℕ) (x y : CustRow) (change : Customer → Customer) (within : j < length I.customers) (item : x ≡ slice_index_or a.custs.items j x)
      (same_id : y.id ≡ x.id) (changed : customer_of y ≡ change (customer_of x)) where
    abbrev with_cust : Inside
    with_cust = record a { custs = with_item a.custs j y }

    among : j < length a.custs.items
    among = omega (arith, within, length-map a.custs.items customer_of, ap (λ (J : Instance). length J.customers) view)

    cust_ids-kept : cust_row_ids with_cust.custs.items ≡ cust_row_ids a.custs.items
    cust_ids-kept = map-set_same (λ (c : CustRow). c.id) a.custs.items j y x (same_id ∙ ap (λ (c : CustRow). c.id) item)

    customer-is : customer_of x ≡ customer_at (stored_instance a) j
    customer-is = ap customer_of item ∙ sym (get_or-map customer_of a.custs.items j x _ among)

    stored-cust_set : stored_instance with_cust ≡ record (stored_instance a) { customers = set (stored_instance a).customers j (customer_of y) }
    stored-cust_set = λ k. record {
      sites = map site_in a.sites.items;
      customers = map-set customer_of a.custs.items j y k;
      lanes = lanes_of (stored_ids a.sites.items) (cust_ids-kept k) (stored_rows a.sites.items);
      lo = a.lo;
      hi = a.hi;
      next_site = a.next_site;
      next_customer = a.next_cust;
    }

    customers-are : set (stored_instance a).customers j (customer_of y) ≡ (with_customer (stored_instance a) (customer_at (stored_instance a) j).id change).customers
    customers-are =
        ap (set (stored_instance a).customers j) (changed ∙ ap change customer-is)
        ∙ sym (map-at_key (λ (c : Customer). c.id) change (stored_instance a).customers j _ stored.valid.customers_named.rising (omega (arith, among, length-map a.custs.items customer_of)))

    pub stored-with_customer : stored_instance with_cust ≡ with_customer I (customer_at I j).id change
    stored-with_customer =
        stored-cust_set ∙ ap (λ (custs : List Customer). record (stored_instance a) { customers = custs }) customers-are
        ∙ ap (λ (J : Instance). with_customer J (customer_at J j).id change) view

    pub IsStored-with_customer : y.demand ≤ MAX_AMOUNT → IsStored with_cust
    IsStored-with_customer demand = record {
      valid =
          subst IsValid (sym stored-cust_set)
          (IsValid-customer_set (stored_instance a) j (customer_of y) (omega (arith, among, length-map a.custs.items customer_of)) (same_id ∙ ap (λ (c : Customer). c.id) customer-is) demand stored.valid);
      rows_full = subst (λ n. All (λ s. length s.row.lanes ≡ n) a.sites.items) (sym (length-set a.custs.items j y)) stored.rows_full;
      site_places = stored.site_places;
      cust_places = stored.cust_places ∙ sym cust_ids-kept;
    }

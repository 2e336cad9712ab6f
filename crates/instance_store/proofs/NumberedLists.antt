-- Lists make a valid instance, whose ids are places.
use Rattle.std.proofs.Common.{◌≡◌, ℕ, ◌+◌, ◌<◌, ◌≤◌, List, [], ◌∷◌, map, length, All, None, IsSome, slice_index_or, get_or, refl, sym, ap, subst, ◌∙◌, arith}
use Rattle.std.specs.List.{range_with_len, zip}
use Rattle.std.proofs.lemmas.List.{length-map}
use Rattle.std.proofs.lemmas.List.Elements.{All-map}
use Rattle.std.proofs.lemmas.List.FromFn.{length-range_with_len, get_or-range_with_len}
use Rattle.std.proofs.lemmas.Simd.{map-map}
use Rattle.std.proofs.lemmas.Slice.Zip.{firsts-zip, seconds-zip, get_or-zip}
use Rattle.location_terms.specs.declared.limits.TheConstants.{MAX_AMOUNT, MAX_SITES, MAX_CUSTOMERS}
use Rattle.location_terms.specs.declared.status.SiteStatus.TheVariants.{Free}
use Rattle.location_terms.specs.Instance.{Site, AreIds, AreSizes, IsValid, lanes_of, lanes_by_customer}
use Rattle.location_terms.specs.Plain.{IsPlain}
use Rattle.location_terms.proofs.Table.{IsTable, columns, lanes_by_columns}
use Rattle.instance_store.specs.declared.rows.CustRow.{CustRow}
use Rattle.instance_store.specs.declared.rows.SiteRow.{SiteRow}
use Rattle.instance_store.specs.declared.numbered.ListedSite.{ListedSite}
use Rattle.instance_store.specs.declared.numbered.SiteLanes.{SiteLanes}
use Rattle.instance_store.specs.declared.numbered.CustLanes.{CustLanes}
use Rattle.instance_store.specs.Small.{IsSmall}
use Rattle.instance_store.specs.Parts.{site_of, customer_of, site_row_ids, cust_row_ids, instance_of, AreParts}
use Rattle.instance_store.specs.Numbered.{ids_to, with_ids, numbered, numbered_by_site, numbered_by_customer, IsListed, IsRow, AreSiteRows, AreCustRows, numbered_row, numbered_customer, column_at, columns_of}
use Rattle.instance_store.proofs.StoredLemmas.{IsValid-instance_of}
use Rattle.instance_store.proofs.PlainParts.{plain-parts}

-- the elements of a list beside the numbers from a on
module _ (a : ℕ) {X : Type 0} (xs : List X) where
  numbers-counted : map (λ (p : ℕ × X). p.0) (zip (range_with_len a (length xs)) xs) ≡ range_with_len a (length xs)
  numbers-counted = firsts-zip (range_with_len a (length xs)) xs (sym (length-range_with_len a (length xs)))

  values-counted : map (λ (p : ℕ × X). p.1) (zip (range_with_len a (length xs)) xs) ≡ xs
  values-counted = seconds-zip (range_with_len a (length xs)) xs (sym (length-range_with_len a (length xs)))

  pub length-counted : length (zip (range_with_len a (length xs)) xs) ≡ length xs
  length-counted = sym (length-map (zip (range_with_len a (length xs)) xs) (λ (p : ℕ × X). p.1)) ∙ ap length values-counted

  All-counted : (Q : ℕ × X → Type 0) → ((n k : ℕ) (d : X) → n ≡ a + k → k < length xs → Q (n, get_or xs k d)) → All Q (zip (range_with_len a (length xs)) xs)
  All-counted Q each k d below =
      let inside : k < length xs = omega (arith, below, length-counted) in
      let within : k < length (range_with_len a (length xs)) = omega (arith, inside, length-range_with_len a (length xs)) in
      subst Q (sym (get_or-zip (range_with_len a (length xs)) xs k d within inside ∙ ap (λ (n : ℕ). (n, get_or xs k d.1)) (get_or-range_with_len a (length xs) k d.0 inside)))
      (each (a + k) k d.1 refl inside)

  -- a list that is changed keeps its numbers
  zip-map : {Y : Type 0} (f : X → Y) (ks : List ℕ) (ys : List X) → zip ks (map f ys) ≡ map (λ (p : ℕ × X). (p.0, f p.1)) (zip ks ys)
  zip-map f [] ys = refl
  zip-map f (k ∷ ks) [] = refl
  zip-map {Y} f (k ∷ ks) (y ∷ ys) = ap (λ (ps : List (ℕ × Y)). (k, f y) ∷ ps) (zip-map f ks ys)

  counted-map : {Y : Type 0} (f : X → Y) → zip (range_with_len a (length (map f xs))) (map f xs) ≡ map (λ (p : ℕ × X). (p.0, f p.1)) (zip (range_with_len a (length xs)) xs)
  counted-map f = ap (λ n. zip (range_with_len a n) (map f xs)) (length-map xs f) ∙ zip-map f (range_with_len a (length xs)) xs

-- the ids 1 to n
pub ids_are : (n : ℕ) → n ≤ MAX_CUSTOMERS → AreIds (ids_to n) (n + 1)
ids_are n few = record {
  positive = λ k d below. let inside : k < n = omega (arith, length-range_with_len 1 n) in rw (get_or-range_with_len 1 n k d) (omega arith);
  rising = λ k below. let inside : k + 1 < n = omega (arith, length-range_with_len 1 n) in omega (arith, get_or-range_with_len 1 n k 0, get_or-range_with_len 1 n (k + 1) 0);
  below_next = λ k d below. let inside : k < n = omega (arith, length-range_with_len 1 n) in rw (get_or-range_with_len 1 n k d) (omega arith);
  next_positive = omega arith;
  next_small = omega arith;
}

-- sites with their lanes, and demands
module _ (sites : List SiteLanes) (demands : List ℕ) where
  site_ids-rows : site_row_ids (map numbered_row (with_ids sites)) ≡ ids_to (length sites)
  site_ids-rows = map-map (λ s. s.id) numbered_row (with_ids sites) ∙ numbers-counted 1 sites

  cust_ids-custs : cust_row_ids (map numbered_customer (with_ids demands)) ≡ ids_to (length demands)
  cust_ids-custs = map-map (λ c. c.id) numbered_customer (with_ids demands) ∙ numbers-counted 1 demands

  lanes-rows : map (λ s. s.lanes) (map numbered_row (with_ids sites)) ≡ map (λ s. s.lanes) sites
  lanes-rows =
      map-map (λ s. s.lanes) numbered_row (with_ids sites)
      ∙ sym (map-map (λ (s : SiteLanes). s.lanes) (λ (p : ℕ × SiteLanes). p.1) (with_ids sites))
      ∙ ap (map (λ (s : SiteLanes). s.lanes)) (values-counted 1 sites)

  length-rows : length (map numbered_row (with_ids sites)) ≡ length sites
  length-rows = length-map (with_ids sites) numbered_row ∙ length-counted 1 sites

  length-custs : length (map numbered_customer (with_ids demands)) ≡ length demands
  length-custs = length-map (with_ids demands) numbered_customer ∙ length-counted 1 demands

  -- what holds of each listed site, whatever its id, holds of each row
  rows_all : (Q : SiteRow → Type 0) → ((id : ℕ) → All (λ s. Q (numbered_row (id, s))) sites) → All Q (map numbered_row (with_ids sites))
  rows_all Q each = All-map Q numbered_row (with_ids sites) (All-counted 1 sites (λ p. Q (numbered_row p)) (λ n k d _ below. each n k d below))

  pub parts-numbered : AreSiteRows sites demands → AreParts 0 MAX_SITES (length sites + 1) (length demands + 1) (map numbered_customer (with_ids demands)) (map numbered_row (with_ids sites))
  parts-numbered are = record {
    sites_named = subst (λ ids. AreIds ids (length sites + 1)) (sym site_ids-rows) (ids_are (length sites) (omega (arith, are.sizes.few_sites)));
    customers_named = subst (λ ids. AreIds ids (length demands + 1)) (sym cust_ids-custs) (ids_are (length demands) are.sizes.few_customers);
    rows_full = rows_all (λ s. length s.lanes ≡ length (map numbered_customer (with_ids demands))) (λ _ k d below. (are.rows k d below).full ∙ sym length-custs);
    lanes_small = rows_all (λ s. All IsSmall s.lanes) (λ _ k d below. (are.rows k d below).small);
    fixed_small = rows_all (λ s. s.fixed ≤ MAX_AMOUNT) (λ _ k d below. (are.listed k d below).fixed_small);
    caps_small = rows_all (λ s. IsSmall s.cap) (λ _ k d below. (are.listed k d below).cap_small);
    demands_small = All-map (λ c. c.demand ≤ MAX_AMOUNT) numbered_customer (with_ids demands) (All-counted 1 demands (λ p. p.1 ≤ MAX_AMOUNT) (λ _ k d _ below. are.demands_small k d below));
    sizes = subst (λ m. AreSizes m (length (map numbered_customer (with_ids demands)))) (sym length-rows) (subst (AreSizes (length sites)) (sym length-custs) are.sizes);
    count_order = omega arith;
    count_small = omega arith;
  }

  -- the rows make the instance of the lists
  pub instance_of-numbered : instance_of 0 MAX_SITES (length sites + 1) (length demands + 1) (map numbered_customer (with_ids demands)) (map numbered_row (with_ids sites)) ≡ numbered_by_site sites demands
  instance_of-numbered =
      let site_with : ℕ × ListedSite → Site = λ s. record { id = s.0; fixed = s.1.fixed; cap = s.1.cap; status = Free } in
      let the_sites : map (site_of Free) (map numbered_row (with_ids sites)) ≡ map site_with (with_ids (map (λ s. s.site) sites)) =
      map-map (site_of Free) numbered_row (with_ids sites)
      ∙ sym (map-map site_with (λ (p : ℕ × SiteLanes). (p.0, p.1.site)) (with_ids sites))
      ∙ ap (map site_with) (sym (counted-map 1 sites (λ s. s.site))) in
      let the_customers : map customer_of (map numbered_customer (with_ids demands)) ≡ map (λ (c : ℕ × ℕ). record { id = c.0; demand = c.1 }) (with_ids demands) = map-map customer_of numbered_customer (with_ids demands) in
      let next : length sites + 1 ≡ length (map (λ s. s.site) sites) + 1 = ap (λ n. n + 1) (sym (length-map sites (λ s. s.site))) in
      λ k. record {
        sites = the_sites k;
        customers = the_customers k;
        lanes = lanes_of (site_ids-rows k) (cust_ids-custs k) (lanes-rows k);
        lo = 0;
        hi = MAX_SITES;
        next_site = next k;
        next_customer = length demands + 1;
      }

  -- the same of what was stored, which is made of the rows
  pub parts-stored : (next_site next_cust : ℕ) (cs : List CustRow) (rs : List SiteRow) → AreSiteRows sites demands → next_site ≡ length sites + 1 → next_cust ≡ length demands + 1 → cs ≡ map numbered_customer (with_ids demands) → rs ≡ map numbered_row (with_ids sites)
      → AreParts 0 MAX_SITES next_site next_cust cs rs
  parts-stored next_site next_cust cs rs are a b custs rows = rw (a, b, custs, rows) (parts-numbered are)

  pub stored-numbered : (next_site next_cust : ℕ) (cs : List CustRow) (rs : List SiteRow) → next_site ≡ length sites + 1 → next_cust ≡ length demands + 1 → cs ≡ map numbered_customer (with_ids demands) → rs ≡ map numbered_row (with_ids sites)
      → instance_of 0 MAX_SITES next_site next_cust cs rs ≡ numbered_by_site sites demands
  stored-numbered next_site next_cust cs rs a b custs rows = rw (a, b, custs, rows) instance_of-numbered

  pub valid-by_site : AreSiteRows sites demands → IsValid (numbered_by_site sites demands)
  valid-by_site are = subst IsValid instance_of-numbered (IsValid-instance_of 0 MAX_SITES (length sites + 1) (length demands + 1) _ _ (parts-numbered are))

  pub plain-by_site : AreSiteRows sites demands → All (λ s. s.site.cap ≡ None) sites → All (λ s. All IsSome s.lanes) sites → IsPlain (numbered_by_site sites demands)
  plain-by_site are no_caps there =
      subst IsPlain instance_of-numbered
      (plain-parts 0 MAX_SITES (length sites + 1) (length demands + 1) _ _ (parts-numbered are) refl (omega (arith, length-rows, are.sizes.few_sites))
      (rows_all (λ s. s.cap ≡ None) (λ _. no_caps)) (rows_all (λ s. All IsSome s.lanes) (λ _. there)))

-- sites, and customers with their lanes
module _ (sites : List ListedSite) (custs : List CustLanes) (are : AreCustRows sites custs) where
  pub length-columns : length (columns_of sites custs) ≡ length sites
  length-columns = length-map (zip (range_with_len 0 (length sites)) sites) _ ∙ length-counted 0 sites

  length-demands : length (map (λ c. c.demand) custs) ≡ length custs
  length-demands = length-map custs (λ c. c.demand)

  pub columns_are : AreSiteRows (columns_of sites custs) (map (λ c. c.demand) custs)
  columns_are = record {
    sizes = subst (λ m. AreSizes m (length (map (λ c. c.demand) custs))) (sym length-columns) (subst (AreSizes (length sites)) (sym length-demands) are.sizes);
    listed = All-map (λ s. IsListed s.site) _ (zip (range_with_len 0 (length sites)) sites) (All-counted 0 sites (λ p. IsListed p.1) (λ _ k d _ below. are.listed k d below));
    rows = All-map (λ s. IsRow (length (map (λ c. c.demand) custs)) s.lanes) _ (zip (range_with_len 0 (length sites)) sites)
        (All-counted 0 sites (λ p. IsRow (length (map (λ c. c.demand) custs)) (column_at p.0 custs)) (λ i k d is below. record {
          full = length-map custs _ ∙ sym length-demands;
          small = All-map IsSmall (λ c. slice_index_or c.lanes i None) custs (λ j e inside. (are.rows j e inside).small i None (omega (arith, is, below, (are.rows j e inside).full)));
        }));
    demands_small = All-map (λ d. d ≤ MAX_AMOUNT) (λ c. c.demand) custs are.demands_small;
  }

  table-custs : IsTable (ids_to (length custs)) (ids_to (length sites)) (map (λ c. c.lanes) custs)
  table-custs = record {
    sites_rise = (ids_are (length custs) are.sizes.few_customers).rising;
    customers_rise = (ids_are (length sites) (omega (arith, are.sizes.few_sites))).rising;
    row_each = length-map custs (λ c. c.lanes) ∙ sym (length-range_with_len 1 (length custs));
    entry_each = All-map (λ row. length row ≡ length (ids_to (length sites))) (λ c. c.lanes) custs (λ k d below. (are.rows k d below).full ∙ sym (length-range_with_len 1 (length sites)));
  }

  -- the lanes down the columns, site by site
  columns-lanes : map (λ s. s.lanes) (columns_of sites custs) ≡ columns (length (ids_to (length sites))) (map (λ c. c.lanes) custs)
  columns-lanes =
      let same : (i : ℕ) → column_at i custs ≡ map (λ row. slice_index_or row i None) (map (λ c. c.lanes) custs) = λ i. sym (map-map (λ row. slice_index_or row i None) (λ (c : CustLanes). c.lanes) custs) in
      let count : length sites ≡ length (ids_to (length sites)) = sym (length-range_with_len 1 (length sites)) in
      map-map (λ s. s.lanes) _ (zip (range_with_len 0 (length sites)) sites)
      ∙ sym (map-map (λ i. column_at i custs) (λ (p : ℕ × ListedSite). p.0) (zip (range_with_len 0 (length sites)) sites))
      ∙ ap (map (λ i. column_at i custs)) (numbers-counted 0 sites)
      ∙ (λ k. map (λ i. same i k) (range_with_len 0 (count k)))

  pub by_site-by_customer : numbered_by_site (columns_of sites custs) (map (λ c. c.demand) custs) ≡ numbered_by_customer sites custs
  by_site-by_customer =
      let the_sites : map (λ s. s.site) (columns_of sites custs) ≡ sites = map-map (λ s. s.site) _ (zip (range_with_len 0 (length sites)) sites) ∙ values-counted 0 sites in
      let the_lanes : lanes_of (ids_to (length (columns_of sites custs))) (ids_to (length (map (λ c. c.demand) custs))) (map (λ s. s.lanes) (columns_of sites custs)) ≡ lanes_by_customer (ids_to (length sites)) (ids_to (length custs)) (map (λ c. c.lanes) custs) =
      (λ k. lanes_of (ids_to (length-columns k)) (ids_to (length-demands k)) (columns-lanes k))
      ∙ sym (lanes_by_columns (ids_to (length sites)) (ids_to (length custs)) (map (λ c. c.lanes) custs) table-custs) in
      λ k. numbered (the_sites k) (map (λ c. c.demand) custs) (the_lanes k)

  pub valid-by_customer : IsValid (numbered_by_customer sites custs)
  valid-by_customer = subst IsValid by_site-by_customer (valid-by_site (columns_of sites custs) (map (λ c. c.demand) custs) columns_are)

  pub no_caps-columns : All (λ s. s.cap ≡ None) sites → All (λ s. s.site.cap ≡ None) (columns_of sites custs)
  no_caps-columns no_caps = All-map (λ s. s.site.cap ≡ None) _ (zip (range_with_len 0 (length sites)) sites) (All-counted 0 sites (λ p. p.1.cap ≡ None) (λ _ k d _ below. no_caps k d below))

  pub there-columns : All (λ c. All IsSome c.lanes) custs → All (λ s. All IsSome s.lanes) (columns_of sites custs)
  there-columns there =
      All-map (λ s. All IsSome s.lanes) _ (zip (range_with_len 0 (length sites)) sites) (All-counted 0 sites (λ p. All IsSome (column_at p.0 custs)) (λ i k d is below.
      All-map IsSome (λ c. slice_index_or c.lanes i None) custs (λ j e inside. there j e inside i None (omega (arith, is, below, (are.rows j e inside).full)))))

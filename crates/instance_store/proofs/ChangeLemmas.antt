-- Instances in which a lane is set, or a site or a customer comes or goes, are valid and are stored as what the rows become.
use Rattle.std.proofs.Common.{◌≡◌, ℕ, ◌+◌, ◌-◌, ◌*◌, ◌<◌, ◌≤◌, ◌==◌, inl, inr, Bool, true, false, not, nat_eq, List, [], ◌∷◌, ◌++◌, map, length, filter, set, insert, remove, All, AllPairs, Contains, Option, None, IfSome, IsSome, slice_index, slice_index_or, get_or, refl, sym, ap, subst, ◌∙◌, arith, if◌then◌else◌, zero, suc}
use Rattle.std.proofs.lemmas.Bool.{cases_order, ne_eqb, eq-eqb}
use Rattle.std.proofs.lemmas.List.{length-set, length-map, get_or-map, get_or_default, map-set, get_or-set_same, get_or-set_other, same_lists}
use Rattle.std.proofs.lemmas.List.Edits.{length-insert, length-remove, get_or-insert_at, get_or-insert_below, get_or-insert_above, get_or-remove_below, get_or-remove_above}
use Rattle.std.proofs.lemmas.List.Elements.{All-set, All-map}
use Rattle.std.proofs.lemmas.List.Folds.{list_any_none}
use Rattle.std.proofs.lemmas.List.Sums.{position_or_len_is}
use Rattle.std.proofs.lemmas.List.Kept.{IsStrictlyIncreasing-filter, AllPairs-from_increasing}
use Rattle.std.proofs.Math.Seq.{map-set_same}
use Rattle.std.specs.List.{list_any, position_or_len}
use Rattle.std.specs.List.Sorted.{IsStrictlyIncreasing}
use Rattle.std.specs.Vec.{with_item}
use Rattle.std.specs.FinMap.{get}
use Rattle.indexmap.specs.IndexSet.{insert_key, move_index}
use Rattle.indexmap.proofs.SetLemmas.{map-insert, map-remove}
use Rattle.indexmap.proofs.MoveLemmas.{push_moved}
use Rattle.location_terms.specs.declared.limits.TheConstants.{MAX_AMOUNT}
use Rattle.location_terms.specs.declared.status.SiteStatus.{SiteStatus}
use Rattle.location_terms.specs.declared.status.SiteStatus.TheVariants.{Free}
use Rattle.location_terms.specs.Instance.{Instance, Site, Customer, Lanes, AreIds, AreSizes, IsValid, site_ids, customer_ids, site_at, customer_at, lanes_of}
use Rattle.location_terms.proofs.Places.{slice_index-site_ids, slice_index-customer_ids}
use Rattle.location_terms.proofs.Table.{IsTable}
use Rattle.instance_store.specs.declared.rows.SiteRow.{SiteRow}
use Rattle.instance_store.specs.declared.rows.CustRow.{CustRow}
use Rattle.instance_store.specs.declared.instance.StoredSite.{StoredSite}
use Rattle.instance_store.specs.declared.instance.Instance.TheInside.{Inside}
use Rattle.instance_store.specs.Small.{IsSmall}
use Rattle.instance_store.specs.Parts.{site_of, customer_of, cust_row_ids}
use Rattle.instance_store.specs.Changes.{lanes_with, with_lane_cost, without_site, without_customer, lanes_without_site, lanes_without_customer, with_site_in, with_customer_in, with_row, with_column}
use Rattle.instance_store.specs.Columns.{AreChanged, AreWithout, AreWith, without_lane, with_lane_at}
use Rattle.instance_store.specs.Stored.{site_in, stored_ids, stored_rows, stored_instance, IsStored}
use Rattle.instance_store.proofs.StoredLemmas.{site_ids-stored, customer_ids-stored, table-stored}
use Rattle.instance_store.proofs.LaneTables.{lane_set, set_known, with_small, row_out, site_out_known, out_small, row_in, column_out, customer_out_known, less_small, column_in, was_apart}

-- what all have is had by those that stay, and by one more that has it
pub All-remove : {X : Type 0} (P : X → Type 0) (xs : List X) (p : ℕ) → p < length xs → All P xs → All P (remove xs p)
All-remove P xs p within all k d below =
    let count = length-remove xs p within in
    elim (cases_order k p) [
      | inl e ↦ subst P (sym (get_or-remove_above xs p d k (omega (arith, e)) within)) (all (k + 1) d (omega (arith, below, count)))
      | inr other ↦ elim other [
        | inl before ↦ subst P (sym (get_or-remove_below xs p d k before within)) (all k d (omega (arith, below, count)))
        | inr after ↦ subst P (sym (get_or-remove_above xs p d k (omega (arith, after)) within)) (all (k + 1) d (omega (arith, below, count)))
      ]
    ]

pub All-insert : {X : Type 0} (P : X → Type 0) (xs : List X) (p : ℕ) (x : X) → p ≤ length xs → P x → All P xs → All P (insert xs p x)
All-insert P xs p x within here all k d below =
    let count = length-insert xs p x within in
    elim (cases_order k p) [
      | inl e ↦ subst P (sym (ap (λ n. get_or (insert xs p x) n d) e ∙ get_or-insert_at xs p x d within)) here
      | inr other ↦ elim other [
        | inl before ↦ subst P (sym (get_or-insert_below xs p x d k before within)) (all k d (omega (arith, before, within)))
        | inr after ↦
            let less : k ≡ k - 1 + 1 = omega (arith, after) in
            subst P (sym (ap (λ n. get_or (insert xs p x) n d) less ∙ get_or-insert_above xs p x d (k - 1) (omega (arith, after)) within)) (all (k - 1) d (omega (arith, below, count, after)))
      ]
    ]

-- where keys rise, to leave out the key of a place is to leave out that place
filter-all : {X : Type 0} (p : X → Bool) (xs : List X) → All (λ x. p x ≡ true) xs → filter p xs ≡ xs
filter-all p [] all = refl
filter-all p (x ∷ xs) all = ap (λ b. if b then x ∷ filter p xs else filter p xs) (all 0 x (omega arith)) ∙ ap (λ ys. x ∷ ys) (filter-all p xs (λ k d b. all (suc k) d (omega (arith, b))))

filter-at : {X : Type 0} (key : X → ℕ) (xs : List X) (i : ℕ) (d : X) → AllPairs (λ x y. key x < key y) xs → i < length xs → filter (λ x. not (key x == key (get_or xs i d))) xs ≡ remove xs i
filter-at key [] i d rise within = absurd (omega arith)
filter-at key (x ∷ xs) zero d rise within =
    ap (λ b. if not b then x ∷ filter (λ y. not (key y == key x)) xs else filter (λ y. not (key y == key x)) xs) (eq-eqb (key x) (key x) refl)
    ∙ filter-all (λ y. not (key y == key x)) xs (λ k e below. let less = rise 0 (suc k) e (omega arith) (omega (arith, below)) in ap not (ne_eqb (key (get_or xs k e)) (key x) (λ same. omega (arith, less, same))))
filter-at {X} key (x ∷ xs) (suc i) d rise within =
    let less = rise 0 (suc i) d (omega arith) (omega (arith, within)) in
    let p : X → Bool = λ y. not (key y == key (get_or xs i d)) in
    ap (λ b. if not b then x ∷ filter p xs else filter p xs) (ne_eqb (key x) (key (get_or xs i d)) (λ same. omega (arith, less, same)))
    ∙ ap (λ ys. x ∷ ys) (filter-at key xs i d (λ k l e below inside. rise (suc k) (suc l) e (omega (arith, below)) (omega (arith, inside))) (omega (arith, within)))

pairs_of_keys : {X : Type 0} (key : X → ℕ) (xs : List X) → IsStrictlyIncreasing (map key xs) → AllPairs (λ x y. key x < key y) xs
pairs_of_keys key xs rise i j d below inside =
    let h = AllPairs-from_increasing (map key xs) rise i j (key d) below (omega (arith, inside, length-map xs key)) in
    omega (arith, h, get_or-map key xs i d (key d) (omega (arith, below, inside)), get_or-map key xs j d (key d) inside)

pub without_key : {X : Type 0} (key : X → ℕ) (xs : List X) (i : ℕ) (d : X) → IsStrictlyIncreasing (map key xs) → i < length xs → filter (λ x. not (key x == key (get_or xs i d))) xs ≡ remove xs i
without_key key xs i d rise within = filter-at key xs i d (pairs_of_keys key xs rise) within

rising-remove : (ids : List ℕ) (i : ℕ) → i < length ids → IsStrictlyIncreasing ids → IsStrictlyIncreasing (remove ids i)
rising-remove ids i within rise =
    subst IsStrictlyIncreasing (filter-at (λ x. x) ids i 0 (AllPairs-from_increasing ids rise) within) (IsStrictlyIncreasing-filter (λ x. not (x == get_or ids i 0)) ids rise)

AreIds-remove : (ids : List ℕ) (next i : ℕ) → i < length ids → AreIds ids next → AreIds (remove ids i) next
AreIds-remove ids next i within named = record {
  positive = All-remove (λ n. 1 ≤ n) ids i within named.positive;
  rising = rising-remove ids i within named.rising;
  below_next = All-remove (λ n. n < next) ids i within named.below_next;
  next_positive = named.next_positive;
  next_small = named.next_small;
}

AreSizes-fewer_sites : (m k n : ℕ) → k + 1 ≡ m → 1 < m → AreSizes m n → AreSizes k n
AreSizes-fewer_sites m k n less more sizes = record {
  some_site = omega (arith, less, more);
  few_sites = let few = sizes.few_sites in omega (arith, less, few);
  some_customer = sizes.some_customer;
  few_customers = sizes.few_customers;
  few_lanes = let few = sizes.few_lanes in let whole : (k + 1) * n ≡ m * n = ap (λ x. x * n) less in omega (arith, few, whole);
}

AreSizes-fewer_customers : (m k n : ℕ) → k + 1 ≡ n → 1 < n → AreSizes m n → AreSizes m k
AreSizes-fewer_customers m k n less more sizes = record {
  some_site = sizes.some_site;
  few_sites = sizes.few_sites;
  some_customer = omega (arith, less, more);
  few_customers = let few = sizes.few_customers in omega (arith, less, few);
  few_lanes = let few = sizes.few_lanes in let whole : m * (k + 1) ≡ m * n = ap (λ x. m * x) less in omega (arith, few, whole);
}

-- an id that comes among ids that rise is put in its place
pub new_id : (ids : List ℕ) (p x : ℕ) → p ≤ length ids → IsStrictlyIncreasing (insert ids p x) → list_any (nat_eq x) ids ≡ false
new_id ids p x within rise = list_any_none (nat_eq x) ids (λ k d below. ne_eqb x (get_or ids k d) (λ same. was_apart ids p x within rise k below (get_or_default ids k 0 d below ∙ sym same)))

pub placed_id : (ids : List ℕ) (p x : ℕ) → p ≤ length ids → IsStrictlyIncreasing (insert ids p x) → move_index (insert_key nat_eq ids x) (position_or_len (nat_eq x) ids) p ≡ insert ids p x
placed_id ids p x within rise =
    let last : position_or_len (nat_eq x) ids ≡ length ids =
    position_or_len_is (nat_eq x) ids (length ids) 0 (omega arith) (λ k below. ne_eqb x (get_or ids k 0) (λ same. was_apart ids p x within rise k below (sym same))) (λ past. absurd (omega (arith, past))) in
    (λ k. move_index (ap (λ b. if b then ids else ids ++ x ∷ []) (new_id ids p x within rise) k) (last k) p) ∙ push_moved ids x p within

abbrev no_site : StoredSite
no_site = record { row = record { id = 0; fixed = 0; cap = None; lanes = [] }; status = Free }

-- what a change doesn't touch is as it was, and rows are those before with what it makes of each
changed_map : {Y : Type 0} (f : StoredSite → Y) (change : ℕ → StoredSite → StoredSite) (old new : List StoredSite) → ((i : ℕ) (s : StoredSite) → f (change i s) ≡ f s) → AreChanged (length old) change old new → map f new ≡ map f old
changed_map f change old new same so =
    same_lists (map f new) (map f old) (length-map new f ∙ so.count ∙ sym (length-map old f)) (λ k d below.
    let inside : k < length old = omega (arith, below, length-map new f, so.count) in
    get_or-map f new k no_site d (omega (arith, inside, so.count)) ∙ ap f (so.first k no_site inside inside) ∙ same k (get_or old k no_site) ∙ sym (get_or-map f old k no_site d inside))

changed_rows : (change : ℕ → StoredSite → StoredSite) (made : ℕ → List (Option ℕ) → List (Option ℕ)) (old new : List StoredSite) → ((i : ℕ) (s : StoredSite) → (change i s).row.lanes ≡ made i s.row.lanes) → AreChanged (length old) change old new
    → (i : ℕ) → i < length old → slice_index_or (stored_rows new) i [] ≡ made i (slice_index_or (stored_rows old) i [])
changed_rows change made old new is so i inside =
    let lanes : StoredSite → List (Option ℕ) = λ s. s.row.lanes in
    get_or-map lanes new i no_site [] (omega (arith, inside, so.count)) ∙ ap lanes (so.first i no_site inside inside) ∙ is i (get_or old i no_site) ∙ ap (made i) (sym (get_or-map lanes old i no_site [] inside))

-- other lanes between the same sites and customers
IsValid-lanes : (I : Instance) (m : Lanes) → IsValid I → ((s c : ℕ) → IsSome (get m (s, c)) → Contains (site_ids I) s × Contains (customer_ids I) c) → ((q : ℕ × ℕ) → IfSome (get m q) (λ cost. cost ≤ MAX_AMOUNT)) → IsValid (record I { lanes = m })
IsValid-lanes I m valid known small = record {
  sites_named = valid.sites_named;
  customers_named = valid.customers_named;
  lanes_known = known;
  lanes_small = λ s c. small (s, c);
  fixed_small = valid.fixed_small;
  caps_small = valid.caps_small;
  demands_small = valid.demands_small;
  sizes = valid.sizes;
  count_order = valid.count_order;
  count_small = valid.count_small;
}

module _ (a : Inside) (stored : IsStored a) where
  abbrev J : Instance
  J = stored_instance a

  abbrev ss : List ℕ
  ss = stored_ids a.sites.items

  abbrev cs : List ℕ
  cs = cust_row_ids a.custs.items

  abbrev rows : List (List (Option ℕ))
  rows = stored_rows a.sites.items

  table : IsTable ss cs rows
  table = table-stored a stored

  ss-long : length ss ≡ length a.sites.items
  ss-long = length-map a.sites.items (λ s. s.row.id)

  rows-long : length rows ≡ length a.sites.items
  rows-long = length-map a.sites.items (λ s. s.row.lanes)

  cs-long : length cs ≡ length a.custs.items
  cs-long = length-map a.custs.items (λ c. c.id)

  J-sites-long : length J.sites ≡ length a.sites.items
  J-sites-long = length-map a.sites.items site_in

  J-customers-long : length J.customers ≡ length a.custs.items
  J-customers-long = length-map a.custs.items customer_of

  site_id : (i : ℕ) → i < length a.sites.items → slice_index ss i ≡ (site_at J i).id
  site_id i within = ap (λ ids. slice_index ids i) (sym (site_ids-stored a)) ∙ slice_index-site_ids J i (omega (arith, within, J-sites-long))

  customer_id : (j : ℕ) → j < length a.custs.items → slice_index cs j ≡ (customer_at J j).id
  customer_id j within = ap (λ ids. slice_index ids j) (sym (customer_ids-stored a)) ∙ slice_index-customer_ids J j (omega (arith, within, J-customers-long))

  module _ (I : Instance) (view : J ≡ I) where
    -- a lane is set
    module _ (i j : ℕ) (x : StoredSite) (row : List (Option ℕ)) (lane : Option ℕ) (among : i < length I.sites) (amid : j < length I.customers) (item : x ≡ slice_index_or a.sites.items i x)
        (is : row ≡ set x.row.lanes j lane) (small : IsSmall lane) where
      abbrev y : StoredSite
      y = record x { row = record x.row { lanes = row } }

      abbrev with_y : Inside
      with_y = record a { sites = with_item a.sites i y }

      within : i < length a.sites.items
      within = omega (arith, among, J-sites-long, ap (λ (K : Instance). length K.sites) view)

      inside : j < length a.custs.items
      inside = omega (arith, amid, J-customers-long, ap (λ (K : Instance). length K.customers) view)

      full : length row ≡ length a.custs.items
      full = ap length is ∙ length-set x.row.lanes j lane ∙ ap (λ (s : StoredSite). length s.row.lanes) item ∙ stored.rows_full i x within

      table-set : IsTable ss cs (set rows i row)
      table-set = record {
        sites_rise = table.sites_rise;
        customers_rise = table.customers_rise;
        row_each = length-set rows i row ∙ table.row_each;
        entry_each = All-set (λ r. length r ≡ length cs) rows i row (full ∙ sym cs-long) table.entry_each;
      }

      row-is : slice_index_or (set rows i row) i [] ≡ set (slice_index_or rows i []) j lane
      row-is = get_or-set_same rows i row [] (omega (arith, within, rows-long)) ∙ is ∙ ap (λ r. set r j lane) (ap (λ (s : StoredSite). s.row.lanes) item ∙ sym (get_or-map (λ (s : StoredSite). s.row.lanes) a.sites.items i x [] within))

      lanes-are : lanes_with J.lanes (slice_index ss i) (slice_index cs j) lane ≡ lanes_of ss cs (set rows i row)
      lanes-are = lane_set ss cs rows table i j lane (omega (arith, within, ss-long)) (omega (arith, inside, cs-long)) (set rows i row) row-is (λ k apart. get_or-set_other rows i k row [] apart) table-set

      abbrev K : Instance
      K = record J { lanes = lanes_with J.lanes (slice_index ss i) (slice_index cs j) lane }

      stored-K : stored_instance with_y ≡ K
      stored-K = λ k. record {
        sites = map-set_same site_in a.sites.items i y x (ap site_in item) k;
        customers = J.customers;
        lanes = ((λ n. lanes_of (map-set_same (λ (s : StoredSite). s.row.id) a.sites.items i y x (ap (λ (s : StoredSite). s.row.id) item) n) cs (map-set (λ (s : StoredSite). s.row.lanes) a.sites.items i y n)) ∙ sym lanes-are) k;
        lo = a.lo;
        hi = a.hi;
        next_site = a.next_site;
        next_customer = a.next_cust;
      }

      pub stored-with_lane : stored_instance with_y ≡ with_lane_cost I (site_at I i).id (customer_at I j).id lane
      stored-with_lane =
          stored-K
          ∙ (λ k. record J { lanes = lanes_with J.lanes (site_id i within k) (customer_id j inside k) lane })
          ∙ ap (λ (L : Instance). with_lane_cost L (site_at L i).id (customer_at L j).id lane) view

      pub IsStored-with_lane : IsStored with_y
      IsStored-with_lane = record {
        valid =
            subst IsValid (sym stored-K)
            (IsValid-lanes J K.lanes stored.valid
            (λ s c there. let known = set_known ss cs rows table i j lane (omega (arith, within, ss-long)) (omega (arith, inside, cs-long)) (set rows i row) row-is (λ k apart. get_or-set_other rows i k row [] apart) s c there in
            (subst (λ ids. Contains ids s) (sym (site_ids-stored a)) known.0, subst (λ ids. Contains ids c) (sym (customer_ids-stored a)) known.1))
            (with_small (λ cost. cost ≤ MAX_AMOUNT) J.lanes (λ q. stored.valid.lanes_small q.0 q.1) (slice_index ss i) (slice_index cs j) lane small));
        rows_full = All-set (λ (s : StoredSite). length s.row.lanes ≡ length a.custs.items) a.sites.items i y full stored.rows_full;
        site_places = stored.site_places ∙ sym (map-set_same (λ (s : StoredSite). s.row.id) a.sites.items i y x (ap (λ (s : StoredSite). s.row.id) item));
        cust_places = stored.cust_places;
      }

    -- a site goes
    module _ (i : ℕ) (b : Inside) (among : i < length I.sites) (others : 1 < length I.sites)
        (sites : b.sites.items ≡ remove a.sites.items i) (site_places : b.site_places.keys ≡ remove a.site_places.keys i) (custs : b.custs.items ≡ a.custs.items) (cust_places : b.cust_places.keys ≡ a.cust_places.keys)
        (lo : b.lo ≡ a.lo) (hi : b.hi ≡ a.hi) (next_site : b.next_site ≡ a.next_site) (next_cust : b.next_cust ≡ a.next_cust) where
      within-out : i < length a.sites.items
      within-out = omega (arith, among, J-sites-long, ap (λ (L : Instance). length L.sites) view)

      ids-out : stored_ids b.sites.items ≡ remove ss i
      ids-out = ap stored_ids sites ∙ map-remove (λ (s : StoredSite). s.row.id) a.sites.items i

      rows-out : stored_rows b.sites.items ≡ remove rows i
      rows-out = ap stored_rows sites ∙ map-remove (λ (s : StoredSite). s.row.lanes) a.sites.items i

      table-out : IsTable (remove ss i) cs (remove rows i)
      table-out = record {
        sites_rise = rising-remove ss i (omega (arith, within-out, ss-long)) table.sites_rise;
        customers_rise = table.customers_rise;
        row_each = let m = length-remove ss i (omega (arith, within-out, ss-long)) in let n = length-remove rows i (omega (arith, within-out, rows-long)) in omega (arith, m, n, table.row_each);
        entry_each = All-remove (λ r. length r ≡ length cs) rows i (omega (arith, within-out, rows-long)) table.entry_each;
      }

      abbrev K-out : Instance
      K-out = record J { sites = remove J.sites i; lanes = lanes_without_site J.lanes (slice_index ss i) }

      stored-K-out : stored_instance b ≡ K-out
      stored-K-out = λ k. record {
        sites = (ap (map site_in) sites ∙ map-remove site_in a.sites.items i) k;
        customers = map customer_of (custs k);
        lanes = ((λ n. lanes_of (ids-out n) (cust_row_ids (custs n)) (rows-out n)) ∙ sym (row_out ss cs rows table i (omega (arith, within-out, ss-long)) table-out)) k;
        lo = lo k;
        hi = hi k;
        next_site = next_site k;
        next_customer = next_cust k;
      }

      K-ids : site_ids K-out ≡ remove ss i
      K-ids = map-remove (λ (s : Site). s.id) J.sites i ∙ ap (λ ids. remove ids i) (site_ids-stored a)

      valid-K : IsValid K-out
      valid-K =
          let i-in : i < length J.sites = omega (arith, within-out, J-sites-long) in
          let fewer = length-remove J.sites i i-in in
          record {
            sites_named =
                subst (λ ids. AreIds ids J.next_site) (sym K-ids)
                (AreIds-remove ss J.next_site i (omega (arith, within-out, ss-long)) (subst (λ ids. AreIds ids J.next_site) (site_ids-stored a) stored.valid.sites_named));
            customers_named = stored.valid.customers_named;
            lanes_known = λ s c there.
                let known = site_out_known ss cs rows table i (omega (arith, within-out, ss-long)) s c there in
                (subst (λ ids. Contains ids s) (sym K-ids) known.0, subst (λ ids. Contains ids c) (sym (customer_ids-stored a)) known.1);
            lanes_small = λ s c. out_small (λ cost. cost ≤ MAX_AMOUNT) J.lanes (λ q. stored.valid.lanes_small q.0 q.1) (slice_index ss i) (s, c);
            fixed_small = All-remove (λ (s : Site). s.fixed ≤ MAX_AMOUNT) J.sites i i-in stored.valid.fixed_small;
            caps_small = All-remove (λ (s : Site). IsSmall s.cap) J.sites i i-in stored.valid.caps_small;
            demands_small = stored.valid.demands_small;
            sizes = AreSizes-fewer_sites (length J.sites) (length (remove J.sites i)) (length J.customers) fewer (omega (arith, others, ap (λ (L : Instance). length L.sites) view)) stored.valid.sizes;
            count_order = stored.valid.count_order;
            count_small = stored.valid.count_small;
          }

      pub stored-without_site : stored_instance b ≡ without_site I (site_at I i).id
      stored-without_site =
          let rest : filter (λ x. not (x.id == (site_at J i).id)) J.sites ≡ remove J.sites i = without_key (λ (s : Site). s.id) J.sites i _ stored.valid.sites_named.rising (omega (arith, within-out, J-sites-long)) in
          stored-K-out
          ∙ (λ k. record J { sites = sym rest k; lanes = lanes_without_site J.lanes (site_id i within-out k) })
          ∙ ap (λ (L : Instance). without_site L (site_at L i).id) view

      pub IsStored-without_site : IsStored b
      IsStored-without_site = record {
        valid = subst IsValid (sym stored-K-out) valid-K;
        rows_full =
            subst (λ (p : List CustRow × List StoredSite). All (λ s. length s.row.lanes ≡ length p.0) p.1) (λ k. (sym custs k, sym sites k))
            (All-remove (λ (s : StoredSite). length s.row.lanes ≡ length a.custs.items) a.sites.items i within-out stored.rows_full);
        site_places = site_places ∙ ap (λ ids. remove ids i) stored.site_places ∙ sym ids-out;
        cust_places = cust_places ∙ stored.cust_places ∙ ap cust_row_ids (sym custs);
      }

    -- a site comes
    module _ (p : ℕ) (row : SiteRow) (status : SiteStatus) (b : Inside) (among : p ≤ length I.sites) (full : length row.lanes ≡ length I.customers) (valid : IsValid (with_site_in I p row status))
        (sites : b.sites.items ≡ insert a.sites.items p (record { row = row; status = status })) (site_places : b.site_places.keys ≡ insert a.site_places.keys p row.id) (custs : b.custs.items ≡ a.custs.items) (cust_places : b.cust_places.keys ≡ a.cust_places.keys)
        (lo : b.lo ≡ a.lo) (hi : b.hi ≡ a.hi) (next_site : b.next_site ≡ a.next_site) (next_cust : b.next_cust ≡ a.next_cust) where
      abbrev new : StoredSite
      new = record { row = row; status = status }

      within-in : p ≤ length a.sites.items
      within-in = omega (arith, among, J-sites-long, ap (λ (K : Instance). length K.sites) view)

      wide : length row.lanes ≡ length a.custs.items
      wide = omega (arith, full, J-customers-long, ap (λ (K : Instance). length K.customers) view)

      ids-in : stored_ids b.sites.items ≡ insert ss p row.id
      ids-in = ap stored_ids sites ∙ map-insert (λ (s : StoredSite). s.row.id) a.sites.items p new

      rows-in : stored_rows b.sites.items ≡ insert rows p row.lanes
      rows-in = ap stored_rows sites ∙ map-insert (λ (s : StoredSite). s.row.lanes) a.sites.items p new

      valid-J : IsValid (with_site_in J p row status)
      valid-J = subst (λ (L : Instance). IsValid (with_site_in L p row status)) (sym view) valid

      rise-in : IsStrictlyIncreasing (insert ss p row.id)
      rise-in = subst IsStrictlyIncreasing (map-insert (λ (s : Site). s.id) J.sites p (site_of status row) ∙ ap (λ ids. insert ids p row.id) (site_ids-stored a)) valid-J.sites_named.rising

      table-in : IsTable (insert ss p row.id) cs (insert rows p row.lanes)
      table-in = record {
        sites_rise = rise-in;
        customers_rise = table.customers_rise;
        row_each = length-insert rows p row.lanes (omega (arith, within-in, rows-long)) ∙ ap (λ n. n + 1) table.row_each ∙ sym (length-insert ss p row.id (omega (arith, within-in, ss-long)));
        entry_each = All-insert (λ r. length r ≡ length cs) rows p row.lanes (omega (arith, within-in, rows-long)) (wide ∙ sym cs-long) table.entry_each;
      }

      stored-J : stored_instance b ≡ with_site_in J p row status
      stored-J = λ k. record {
        sites = (ap (map site_in) sites ∙ map-insert site_in a.sites.items p new) k;
        customers = map customer_of (custs k);
        lanes =
            ((λ n. lanes_of (ids-in n) (cust_row_ids (custs n)) (rows-in n))
            ∙ sym (row_in ss cs rows table p row.id row.lanes (omega (arith, within-in, ss-long)) table-in)
            ∙ ap (λ ids. with_row J.lanes row.id ids row.lanes) (sym (customer_ids-stored a))) k;
        lo = lo k;
        hi = hi k;
        next_site = next_site k;
        next_customer = next_cust k;
      }

      pub stored-with_site_in : stored_instance b ≡ with_site_in I p row status
      stored-with_site_in = stored-J ∙ ap (λ (L : Instance). with_site_in L p row status) view

      pub IsStored-with_site_in : IsStored b
      IsStored-with_site_in = record {
        valid = subst IsValid (sym stored-J) valid-J;
        rows_full =
            subst (λ (q : List CustRow × List StoredSite). All (λ s. length s.row.lanes ≡ length q.0) q.1) (λ k. (sym custs k, sym sites k))
            (All-insert (λ (s : StoredSite). length s.row.lanes ≡ length a.custs.items) a.sites.items p new within-in wide stored.rows_full);
        site_places = site_places ∙ ap (λ ids. insert ids p row.id) stored.site_places ∙ sym ids-in;
        cust_places = cust_places ∙ stored.cust_places ∙ ap cust_row_ids (sym custs);
      }

    -- a customer goes
    module _ (j : ℕ) (b : Inside) (among : j < length I.customers) (others : 1 < length I.customers)
        (sites : AreWithout (length a.sites.items) j a.sites.items b.sites.items) (custs : b.custs.items ≡ remove a.custs.items j) (cust_places : b.cust_places.keys ≡ remove a.cust_places.keys j) (site_places : b.site_places.keys ≡ a.site_places.keys)
        (lo : b.lo ≡ a.lo) (hi : b.hi ≡ a.hi) (next_site : b.next_site ≡ a.next_site) (next_cust : b.next_cust ≡ a.next_cust) where
      within-less : j < length a.custs.items
      within-less = omega (arith, among, J-customers-long, ap (λ (L : Instance). length L.customers) view)

      ids-less : cust_row_ids b.custs.items ≡ remove cs j
      ids-less = ap cust_row_ids custs ∙ map-remove (λ (c : CustRow). c.id) a.custs.items j

      site_ids-less : stored_ids b.sites.items ≡ ss
      site_ids-less = changed_map (λ (s : StoredSite). s.row.id) (λ i s. without_lane j s) a.sites.items b.sites.items (λ i s. refl) sites

      rows-less : (i : ℕ) → i < length ss → slice_index_or (stored_rows b.sites.items) i [] ≡ remove (slice_index_or rows i []) j
      rows-less i inside = changed_rows (λ i s. without_lane j s) (λ i row. remove row j) a.sites.items b.sites.items (λ i s. refl) sites i (omega (arith, inside, ss-long))

      full-less : All (λ s. length s.row.lanes ≡ length b.custs.items) b.sites.items
      full-less = λ k d below.
          let inside : k < length a.sites.items = omega (arith, below, sites.count) in
          let one = ap (λ (s : StoredSite). length s.row.lanes) (sites.first k d inside inside) in
          let wide : length (slice_index_or a.sites.items k d).row.lanes ≡ length a.custs.items = stored.rows_full k d inside in
          let shorter = length-remove (slice_index_or a.sites.items k d).row.lanes j (omega (arith, within-less, wide)) in
          let fewer = length-remove a.custs.items j within-less in
          omega (arith, one, wide, shorter, fewer, ap length custs)

      table-less : IsTable ss (remove cs j) (stored_rows b.sites.items)
      table-less = record {
        sites_rise = table.sites_rise;
        customers_rise = rising-remove cs j (omega (arith, within-less, cs-long)) table.customers_rise;
        row_each = length-map b.sites.items (λ s. s.row.lanes) ∙ sites.count ∙ sym ss-long;
        entry_each =
            All-map (λ row. length row ≡ length (remove cs j)) (λ (s : StoredSite). s.row.lanes) b.sites.items
            (λ k d below. full-less k d below ∙ sym (length-map b.custs.items (λ c. c.id)) ∙ ap length ids-less);
      }

      abbrev K-less : Instance
      K-less = record J { customers = remove J.customers j; lanes = lanes_without_customer J.lanes (slice_index cs j) }

      stored-K-less : stored_instance b ≡ K-less
      stored-K-less = λ k. record {
        sites = changed_map site_in (λ i s. without_lane j s) a.sites.items b.sites.items (λ i s. refl) sites k;
        customers = (ap (map customer_of) custs ∙ map-remove customer_of a.custs.items j) k;
        lanes = ((λ n. lanes_of (site_ids-less n) (ids-less n) (stored_rows b.sites.items)) ∙ sym (column_out ss cs rows table j (omega (arith, within-less, cs-long)) (stored_rows b.sites.items) rows-less table-less)) k;
        lo = lo k;
        hi = hi k;
        next_site = next_site k;
        next_customer = next_cust k;
      }

      K-less-ids : customer_ids K-less ≡ remove cs j
      K-less-ids = map-remove (λ (c : Customer). c.id) J.customers j ∙ ap (λ ids. remove ids j) (customer_ids-stored a)

      valid-less : IsValid K-less
      valid-less =
          let j-in : j < length J.customers = omega (arith, within-less, J-customers-long) in
          let fewer = length-remove J.customers j j-in in
          record {
            sites_named = stored.valid.sites_named;
            customers_named =
                subst (λ ids. AreIds ids J.next_customer) (sym K-less-ids)
                (AreIds-remove cs J.next_customer j (omega (arith, within-less, cs-long)) (subst (λ ids. AreIds ids J.next_customer) (customer_ids-stored a) stored.valid.customers_named));
            lanes_known = λ s c there.
                let known = customer_out_known ss cs rows table j (omega (arith, within-less, cs-long)) (stored_rows b.sites.items) rows-less s c there in
                (subst (λ ids. Contains ids s) (sym (site_ids-stored a)) known.0, subst (λ ids. Contains ids c) (sym K-less-ids) known.1);
            lanes_small = λ s c. less_small (λ cost. cost ≤ MAX_AMOUNT) J.lanes (λ q. stored.valid.lanes_small q.0 q.1) (slice_index cs j) (s, c);
            fixed_small = stored.valid.fixed_small;
            caps_small = stored.valid.caps_small;
            demands_small = All-remove (λ (c : Customer). c.demand ≤ MAX_AMOUNT) J.customers j j-in stored.valid.demands_small;
            sizes = AreSizes-fewer_customers (length J.sites) (length (remove J.customers j)) (length J.customers) fewer (omega (arith, others, ap (λ (L : Instance). length L.customers) view)) stored.valid.sizes;
            count_order = stored.valid.count_order;
            count_small = stored.valid.count_small;
          }

      pub stored-without_customer : stored_instance b ≡ without_customer I (customer_at I j).id
      stored-without_customer =
          let rest : filter (λ x. not (x.id == (customer_at J j).id)) J.customers ≡ remove J.customers j = without_key (λ (c : Customer). c.id) J.customers j _ stored.valid.customers_named.rising (omega (arith, within-less, J-customers-long)) in
          stored-K-less
          ∙ (λ k. record J { customers = sym rest k; lanes = lanes_without_customer J.lanes (customer_id j within-less k) })
          ∙ ap (λ (L : Instance). without_customer L (customer_at L j).id) view

      pub IsStored-without_customer : IsStored b
      IsStored-without_customer = record {
        valid = subst IsValid (sym stored-K-less) valid-less;
        rows_full = full-less;
        site_places = site_places ∙ stored.site_places ∙ sym site_ids-less;
        cust_places = cust_places ∙ ap (λ ids. remove ids j) stored.cust_places ∙ sym ids-less;
      }

    -- a customer comes
    module _ (p : ℕ) (row : CustRow) (column : List (Option ℕ)) (b : Inside) (among : p ≤ length I.customers) (full : length column ≡ length I.sites) (valid : IsValid (with_customer_in I p row column))
        (sites : AreWith (length a.sites.items) p column a.sites.items b.sites.items) (custs : b.custs.items ≡ insert a.custs.items p row) (cust_places : b.cust_places.keys ≡ insert a.cust_places.keys p row.id) (site_places : b.site_places.keys ≡ a.site_places.keys)
        (lo : b.lo ≡ a.lo) (hi : b.hi ≡ a.hi) (next_site : b.next_site ≡ a.next_site) (next_cust : b.next_cust ≡ a.next_cust) where
      within-more : p ≤ length a.custs.items
      within-more = omega (arith, among, J-customers-long, ap (λ (L : Instance). length L.customers) view)

      full-more : length column ≡ length ss
      full-more = omega (arith, full, J-sites-long, ss-long, ap (λ (L : Instance). length L.sites) view)

      abbrev put : ℕ → StoredSite → StoredSite
      put = λ i s. with_lane_at p (slice_index_or column i None) s

      ids-more : cust_row_ids b.custs.items ≡ insert cs p row.id
      ids-more = ap cust_row_ids custs ∙ map-insert (λ (c : CustRow). c.id) a.custs.items p row

      site_ids-more : stored_ids b.sites.items ≡ ss
      site_ids-more = changed_map (λ (s : StoredSite). s.row.id) put a.sites.items b.sites.items (λ i s. refl) sites

      rows-more : (i : ℕ) → i < length ss → slice_index_or (stored_rows b.sites.items) i [] ≡ insert (slice_index_or rows i []) p (slice_index_or column i None)
      rows-more i inside = changed_rows put (λ i r. insert r p (slice_index_or column i None)) a.sites.items b.sites.items (λ i s. refl) sites i (omega (arith, inside, ss-long))

      rows_full-more : All (λ s. length s.row.lanes ≡ length b.custs.items) b.sites.items
      rows_full-more = λ k d below.
          let inside : k < length a.sites.items = omega (arith, below, sites.count) in
          let one = ap (λ (s : StoredSite). length s.row.lanes) (sites.first k d inside inside) in
          let wide : length (slice_index_or a.sites.items k d).row.lanes ≡ length a.custs.items = stored.rows_full k d inside in
          let longer = length-insert (slice_index_or a.sites.items k d).row.lanes p (slice_index_or column k None) (omega (arith, within-more, wide)) in
          let more = length-insert a.custs.items p row within-more in
          omega (arith, one, wide, longer, more, ap length custs)

      valid-more : IsValid (with_customer_in J p row column)
      valid-more = subst (λ (L : Instance). IsValid (with_customer_in L p row column)) (sym view) valid

      rise-more : IsStrictlyIncreasing (insert cs p row.id)
      rise-more = subst IsStrictlyIncreasing (map-insert (λ (c : Customer). c.id) J.customers p (customer_of row) ∙ ap (λ ids. insert ids p row.id) (customer_ids-stored a)) valid-more.customers_named.rising

      table-more : IsTable ss (insert cs p row.id) (stored_rows b.sites.items)
      table-more = record {
        sites_rise = table.sites_rise;
        customers_rise = rise-more;
        row_each = length-map b.sites.items (λ s. s.row.lanes) ∙ sites.count ∙ sym ss-long;
        entry_each =
            All-map (λ r. length r ≡ length (insert cs p row.id)) (λ (s : StoredSite). s.row.lanes) b.sites.items
            (λ k d below. rows_full-more k d below ∙ sym (length-map b.custs.items (λ c. c.id)) ∙ ap length ids-more);
      }

      stored-J-more : stored_instance b ≡ with_customer_in J p row column
      stored-J-more = λ k. record {
        sites = changed_map site_in put a.sites.items b.sites.items (λ i s. refl) sites k;
        customers = (ap (map customer_of) custs ∙ map-insert customer_of a.custs.items p row) k;
        lanes =
            ((λ n. lanes_of (site_ids-more n) (ids-more n) (stored_rows b.sites.items))
            ∙ sym (column_in ss cs rows table p row.id column (omega (arith, within-more, cs-long)) full-more (stored_rows b.sites.items) table-more rows-more)
            ∙ ap (λ ids. with_column J.lanes row.id ids column) (sym (site_ids-stored a))) k;
        lo = lo k;
        hi = hi k;
        next_site = next_site k;
        next_customer = next_cust k;
      }

      pub stored-with_customer_in : stored_instance b ≡ with_customer_in I p row column
      stored-with_customer_in = stored-J-more ∙ ap (λ (L : Instance). with_customer_in L p row column) view

      pub IsStored-with_customer_in : IsStored b
      IsStored-with_customer_in = record {
        valid = subst IsValid (sym stored-J-more) valid-more;
        rows_full = rows_full-more;
        site_places = site_places ∙ stored.site_places ∙ sym site_ids-more;
        cust_places = cust_places ∙ ap (λ ids. insert ids p row.id) stored.cust_places ∙ sym ids-more;
      }

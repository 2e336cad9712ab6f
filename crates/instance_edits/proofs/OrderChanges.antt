-- Edits, and what takes them back, as an order of lanes sees them: what they do to the ids and to the lanes by ids.
use Rattle.std.proofs.Common.{◌≡◌, ℕ, zero, suc, ◌+◌, ◌<◌, ◌≤◌, ◌==◌, ◌↔◌, Bool, true, false, cond, not, List, [], ◌∷◌, map, insert, length, Contains, Option, None, Some, Result, Ok, Err, find, slice_index, slice_index_or, if◌then◌else◌, refl, sym, ap, subst, ◌∙◌, arith}
use Rattle.std.proofs.lemmas.Bool.{ne_eqb, eq-eqb, eqb-true}
use Rattle.std.proofs.lemmas.List.{get_or-map, get_or_default}
use Rattle.std.proofs.lemmas.List.Edits.{length-insert, insert_end}
use Rattle.std.proofs.lemmas.List.Kept.{AllPairs-from_increasing}
use Rattle.std.specs.List.Sorted.{IsStrictlyIncreasing}
use Rattle.std.specs.FinMap.{get}
use Rattle.location_terms.specs.declared.limits.TheConstants.{MAX_SITES}
use Rattle.location_terms.specs.declared.status.SiteStatus.{SiteStatus}
use Rattle.location_terms.specs.Instance.{Instance, Site, Customer, IsValid, site_ids, customer_ids, site_at, customer_at, lane}
use Rattle.location_terms.proofs.Places.{length-site_ids, length-customer_ids, slice_index-site_ids, slice_index-customer_ids}
use Rattle.instance_store.specs.declared.rows.SiteRow.{SiteRow}
use Rattle.instance_store.specs.declared.rows.CustRow.{CustRow}
use Rattle.instance_store.specs.Parts.{site_of, customer_of}
use Rattle.instance_store.specs.Places.{lanes_from}
use Rattle.instance_store.specs.Changes.{with_site, with_customer, with_count, with_lane_cost, with_column, with_site_in, with_customer_in, without_site, without_customer, column_of}
use Rattle.instance_store.proofs.LaneTables.{and_at, and_other, was_apart, get-without_site, get-without_customer}
use Rattle.lane_order.specs.Order.{Order, IsOrderOf, lanes_to}
use Rattle.lane_order.specs.Changed.{DifferInLane, HasSiteMore, HasCustMore}
use Rattle.instance_edits.specs.declared.edit.Edit.TheVariants.{AddCust}
use Rattle.instance_edits.specs.declared.edit.EditFault.{EditFault}
use Rattle.instance_edits.specs.declared.edit.Inverse.TheVariants.{AddedSite, AddedCust}
use Rattle.instance_edits.specs.Edits.{with_new_customer, faults_of, unless_refused, edited}
use Rattle.instance_edits.specs.Undo.{put_back}
use Rattle.instance_edits.proofs.Faults.{none_of}
use Rattle.instance_edits.proofs.ListEdits.{filter_one, length-filter_one, others}
use Rattle.location_terms.proofs.Table.{pair_tied, pair_apart}
use Rattle.instance_edits.proofs.LaneEdits.{get-lanes_with}
use Rattle.instance_edits.proofs.Restored.{no_site, no_customer, no_lane, below_next_customer}

-- Lists.

map-insert : {X : Type 0} (f : X → ℕ) (xs : List X) (i : ℕ) (x : X) → i ≤ length xs → map f (insert xs i x) ≡ insert (map f xs) i (f x)
map-insert f [] zero x within = refl
map-insert f (y ∷ ys) zero x within = refl
map-insert f [] (suc i) x within = absurd (omega arith)
map-insert f (y ∷ ys) (suc i) x within = ap (λ zs. f y ∷ zs) (map-insert f ys i x (omega arith))

-- a change that keeps the keys
keys_kept : {X : Type 0} (key : X → ℕ) (p : X → Bool) (f : X → X) → ((x : X) → key (f x) ≡ key x) → (xs : List X) → map key (map (λ x. if p x then f x else x) xs) ≡ map key xs
keys_kept key p f same [] = refl
keys_kept key p f same (x ∷ xs) = λ i. one (p x) i ∷ keys_kept key p f same xs i
  where
    one : (b : Bool) → key (cond b (f x) x) ≡ key x
    one true = same x
    one false = refl

-- What changes no lane.

order_kept : (order : Order) (I J : Instance) → site_ids J ≡ site_ids I → customer_ids J ≡ customer_ids I → ((s c : ℕ) → lane J s c ≡ lane I s c) → IsOrderOf order I → IsOrderOf order J
order_kept order I J sites customers lanes of =
    let count : length J.customers ≡ length I.customers = sym (length-customer_ids J) ∙ ap (λ (ids : List ℕ). length ids) customers ∙ length-customer_ids I in
    record {
      same_sites = of.same_sites ∙ sym sites;
      same_count = of.same_count ∙ sym count;
      each = λ j b.
          let within : j < length I.customers = omega (arith, b, count) in
          let id : (customer_at J j).id ≡ (customer_at I j).id = sym (slice_index-customer_ids J j b) ∙ ap (λ ids. slice_index ids j) customers ∙ slice_index-customer_ids I j within in
          let was = of.each j within in
          record {
            ascending = was.ascending;
            complete = λ cost s. subst (λ (o : Option ℕ). Contains (lanes_to order j) (cost, s) ↔ (o ≡ Some cost)) (sym (ap (lane J s) id ∙ lanes s (customer_at I j).id)) (was.complete cost s);
          };
    }

module _ (order : Order) (I : Instance) where
  pub site_kept : (s : ℕ) (f : Site → Site) → ((x : Site) → (f x).id ≡ x.id) → IsOrderOf order I → IsOrderOf order (with_site I s f)
  site_kept s f same = order_kept order I (with_site I s f) (keys_kept (λ (x : Site). x.id) (λ x. x.id == s) f same I.sites) refl (λ _ _. refl)

  pub site_kept_back : (s : ℕ) (f : Site → Site) → ((x : Site) → (f x).id ≡ x.id) → IsOrderOf order (with_site I s f) → IsOrderOf order I
  site_kept_back s f same = order_kept order (with_site I s f) I (sym (keys_kept (λ (x : Site). x.id) (λ x. x.id == s) f same I.sites)) refl (λ _ _. refl)

  pub customer_kept : (c : ℕ) (f : Customer → Customer) → ((x : Customer) → (f x).id ≡ x.id) → IsOrderOf order I → IsOrderOf order (with_customer I c f)
  customer_kept c f same = order_kept order I (with_customer I c f) refl (keys_kept (λ (x : Customer). x.id) (λ x. x.id == c) f same I.customers) (λ _ _. refl)

  pub customer_kept_back : (c : ℕ) (f : Customer → Customer) → ((x : Customer) → (f x).id ≡ x.id) → IsOrderOf order (with_customer I c f) → IsOrderOf order I
  customer_kept_back c f same = order_kept order (with_customer I c f) I refl (sym (keys_kept (λ (x : Customer). x.id) (λ x. x.id == c) f same I.customers)) (λ _ _. refl)

  pub count_kept : (lo hi : ℕ) → IsOrderOf order I → IsOrderOf order (with_count I lo hi)
  count_kept lo hi = order_kept order I (with_count I lo hi) refl refl (λ _ _. refl)

  pub count_kept_back : (lo hi : ℕ) → IsOrderOf order (with_count I lo hi) → IsOrderOf order I
  count_kept_back lo hi = order_kept order (with_count I lo hi) I refl refl (λ _ _. refl)

-- One lane, between the site and the customer at these places.
module _ (J : Instance) (s c i j : ℕ) (cost : Option ℕ) (is_site : (site_at J i).id ≡ s) (is_customer : (customer_at J j).id ≡ c) where
  abbrev K : Instance
  K = with_lane_cost J s c cost

  set_there : lane K s c ≡ cost
  set_there = get-lanes_with J.lanes s c cost (s, c) ∙ ap (λ b. cond b cost (get J.lanes (s, c))) (pair_tied (s, c))

  set_elsewhere : (t d : ℕ) → ((t ≡ (site_at J i).id) × (d ≡ (customer_at J j).id) → ⊥) → lane K t d ≡ lane J t d
  set_elsewhere t d apart =
      get-lanes_with J.lanes s c cost (t, d)
      ∙ ap (λ b. cond b cost (get J.lanes (t, d))) (pair_apart (t, d) (s, c) (λ e. apart (ap (λ (q : ℕ × ℕ). q.0) e ∙ sym is_site, ap (λ (q : ℕ × ℕ). q.1) e ∙ sym is_customer)))

  pub lane_set : DifferInLane J (with_lane_cost J s c cost) i j cost
  lane_set = record { sites = refl; customers = refl; changed = (λ k. lane K (is_site k) (is_customer k)) ∙ set_there; others = set_elsewhere }

  pub lane_set_back : DifferInLane (with_lane_cost J s c cost) J i j (lane J (site_at J i).id (customer_at J j).id)
  lane_set_back = record { sites = refl; customers = refl; changed = refl; others = λ t d apart. sym (set_elsewhere t d apart) }

-- A site goes.
module _ (J : Instance) (valid : IsValid J) (p : ℕ) (within : p < length J.sites) where
  abbrev gone : ℕ
  gone = (site_at J p).id

  site_less : length (without_site J gone).sites + 1 ≡ length J.sites
  site_less = length-filter_one (λ (x : Site). x.id == gone) J.sites p no_site within (eq-eqb gone gone refl) (others (λ (x : Site). x.id) J.sites no_site valid.sites_named.rising gone p within refl)

  pub site_gone : HasSiteMore (put_back J (AddedSite (site_at J p).id)) J p (site_at J p).id (lanes_from J (site_at J p))
  site_gone =
      let back = filter_one (λ (x : Site). x.id == gone) J.sites p no_site within (eq-eqb gone gone refl) (others (λ (x : Site). x.id) J.sites no_site valid.sites_named.rising gone p within refl) in
      let inside : p ≤ length (without_site J gone).sites = omega (arith, within, site_less) in
      record {
        within = inside;
        sites = ap (λ (xs : List Site). map (λ x. x.id) xs) (sym back) ∙ map-insert (λ (x : Site). x.id) (without_site J gone).sites p (site_at J p) inside;
        customers = refl;
        own = λ j b. sym (get_or-map (λ (x : Customer). lane J gone x.id) J.customers j no_customer None b);
        others = λ t c apart. sym (get-without_site J.lanes gone (t, c) ∙ ap (λ b. cond (not b) (get J.lanes (t, c)) None) (ne_eqb t gone apart));
      }

-- A customer goes.
module _ (J : Instance) (valid : IsValid J) (p : ℕ) (within : p < length J.customers) where
  abbrev left : ℕ
  left = (customer_at J p).id

  pub customer_less : length (without_customer J left).customers + 1 ≡ length J.customers
  customer_less = length-filter_one (λ (x : Customer). x.id == left) J.customers p no_customer within (eq-eqb left left refl) (others (λ (x : Customer). x.id) J.customers no_customer valid.customers_named.rising left p within refl)

  pub customer_gone : HasCustMore (put_back J (AddedCust (customer_at J p).id)) J p (customer_at J p).id (column_of J (customer_at J p).id)
  customer_gone =
      let back = filter_one (λ (x : Customer). x.id == left) J.customers p no_customer within (eq-eqb left left refl) (others (λ (x : Customer). x.id) J.customers no_customer valid.customers_named.rising left p within refl) in
      let inside : p ≤ length (without_customer J left).customers = omega (arith, within, customer_less) in
      record {
        within = inside;
        sites = refl;
        customers = ap (λ (xs : List Customer). map (λ x. x.id) xs) (sym back) ∙ map-insert (λ (x : Customer). x.id) (without_customer J left).customers p (customer_at J p) inside;
        own = λ i b. sym (get_or-map (λ (x : Site). lane J x.id left) J.sites i no_site None b);
        others = λ s d apart. sym (get-without_customer J.lanes left (s, d) ∙ ap (λ b. cond (not b) (get J.lanes (s, d)) None) (ne_eqb d left apart));
      }

-- an id that comes among ids that rise was none of them
none_before : (ids : List ℕ) (p x : ℕ) → p ≤ length ids → IsStrictlyIncreasing (insert ids p x) → Contains ids x → ⊥
none_before ids p x within rise k = was_apart ids p x within rise k.0 k.1 (get_or_default ids k.0 0 x k.1 ∙ k.2)

module _ (A : Instance) (valid : IsValid A) where
  -- A site comes.
  module _ (p : ℕ) (row : SiteRow) (status : SiteStatus) (within : p ≤ length A.sites) (wide : length row.lanes ≡ length A.customers) (after : IsValid (with_site_in A p row status)) where
    pub site_comes_in : HasSiteMore A (with_site_in A p row status) p row.id row.lanes
    site_comes_in =
        let ids : site_ids (with_site_in A p row status) ≡ insert (site_ids A) p row.id = map-insert (λ (x : Site). x.id) A.sites p (site_of status row) within in
        let rise : IsStrictlyIncreasing (insert (site_ids A) p row.id) = subst IsStrictlyIncreasing ids after.sites_named.rising in
        let new = none_before (site_ids A) p row.id (omega (arith, within, length-site_ids A)) rise in
        record {
          within = within;
          sites = ids;
          customers = refl;
          own = λ j b.
              ap (lane (with_site_in A p row status) row.id) (sym (slice_index-customer_ids A j b))
              ∙ and_at (λ c. (row.id, c)) (λ q. q.1) (λ _. refl) (customer_ids A) row.lanes A.lanes j (AllPairs-from_increasing (customer_ids A) valid.customers_named.rising) (wide ∙ sym (length-customer_ids A)) (omega (arith, b, length-customer_ids A))
              (no_lane A valid (row.id, slice_index (customer_ids A) j) (λ k. new k.0));
          others = λ t c apart. and_other (λ c. (row.id, c)) (customer_ids A) row.lanes A.lanes (t, c) (λ d _ e. apart (ap (λ (q : ℕ × ℕ). q.0) e));
        }

  -- A customer comes.
  module _ (id : ℕ) (column : List (Option ℕ)) (new : Contains (customer_ids A) id → ⊥) (wide : length column ≡ length A.sites) where
    own_lanes : (i : ℕ) → i < length A.sites → get (with_column A.lanes id (site_ids A) column) ((site_at A i).id, id) ≡ slice_index_or column i None
    own_lanes i b =
        ap (λ s. get (with_column A.lanes id (site_ids A) column) (s, id)) (sym (slice_index-site_ids A i b))
        ∙ and_at (λ s. (s, id)) (λ q. q.0) (λ _. refl) (site_ids A) column A.lanes i (AllPairs-from_increasing (site_ids A) valid.sites_named.rising) (wide ∙ sym (length-site_ids A)) (omega (arith, b, length-site_ids A))
        (no_lane A valid (slice_index (site_ids A) i, id) (λ k. new k.1))

    other_lanes : (s d : ℕ) → (d ≡ id → ⊥) → get (with_column A.lanes id (site_ids A) column) (s, d) ≡ get A.lanes (s, d)
    other_lanes s d apart = and_other (λ t. (t, id)) (site_ids A) column A.lanes (s, d) (λ t _ e. apart (ap (λ (q : ℕ × ℕ). q.1) e))

  pub customer_comes_in : (p : ℕ) (row : CustRow) (column : List (Option ℕ)) → p ≤ length A.customers → length column ≡ length A.sites → IsValid (with_customer_in A p row column) → HasCustMore A (with_customer_in A p row column) p row.id column
  customer_comes_in p row column within wide after =
      let ids : customer_ids (with_customer_in A p row column) ≡ insert (customer_ids A) p row.id = map-insert (λ (x : Customer). x.id) A.customers p (customer_of row) within in
      let new = none_before (customer_ids A) p row.id (omega (arith, within, length-customer_ids A)) (subst IsStrictlyIncreasing ids after.customers_named.rising) in
      record { within = within; sites = refl; customers = ids; own = own_lanes row.id column new wide; others = other_lanes row.id column new wide }

  pub new_customer_in : (demand : ℕ) (column : List (Option ℕ)) → length column ≡ length A.sites → HasCustMore A (with_new_customer A demand column) (length A.customers) A.next_customer column
  new_customer_in demand column wide =
      let y : Customer = record { id = A.next_customer; demand = demand } in
      let new : Contains (customer_ids A) A.next_customer → ⊥ = λ k. let low = below_next_customer A valid A.next_customer k in omega (arith, low) in
      record {
        within = omega arith;
        sites = refl;
        customers = ap (λ (xs : List Customer). map (λ x. x.id) xs) (sym (insert_end A.customers y)) ∙ map-insert (λ (x : Customer). x.id) A.customers (length A.customers) y (omega arith);
        own = own_lanes A.next_customer column new wide;
        others = other_lanes A.next_customer column new wide;
      }

-- an order has room for one more site of a valid instance, and its id in its place
pub room_for_site : (order : Order) (A B : Instance) (p s : ℕ) (row : List (Option ℕ)) → IsOrderOf order A → IsValid B → HasSiteMore A B p s row → (length order.sites < MAX_SITES) × IsStrictlyIncreasing (insert order.sites p s)
room_for_site order A B p s row of after more =
    let same : length order.sites ≡ length A.sites = ap (λ (ids : List ℕ). length ids) of.same_sites ∙ length-site_ids A in
    let inside : p ≤ length (site_ids A) = omega (arith, more.within, length-site_ids A) in
    let longer : length B.sites ≡ length (site_ids A) + 1 = sym (length-site_ids B) ∙ ap (λ (ids : List ℕ). length ids) more.sites ∙ length-insert (site_ids A) p s inside in
    let few = after.sizes.few_sites in
    (omega (arith, few, longer, same, length-site_ids A), subst (λ ids. IsStrictlyIncreasing (insert ids p s)) (sym of.same_sites) (subst IsStrictlyIncreasing more.sites after.sites_named.rising))

-- what an edit makes, where it is accepted, is what it was accepted for
one_answer : (X J : Instance) (found : Option (Bool × EditFault)) → unless_refused X found ≡ Ok J → X ≡ J
one_answer X J None e = ap (λ r. answer r) e
  where
    answer : Result Instance EditFault → Instance
    answer (Ok I) = I
    answer (Err fault) = X
one_answer X J (Some fault) e = absurd cc

is_so : (b : Bool) → not b ≡ false → b ≡ true
is_so true e = refl
is_so false e = absurd cc

pub customer_made : (I J : Instance) (demand : ℕ) (column : List (Option ℕ)) → edited I (AddCust demand column) ≡ Ok J → (with_new_customer I demand column ≡ J) × (length column ≡ length I.sites)
customer_made I J demand column made =
    let new = with_new_customer I demand column in
    let faults = faults_of I (AddCust demand column) in
    (one_answer new J (find (λ fault. fault.0) faults) made, eqb-true (length column) (length I.sites) (is_so _ (none_of new J faults made).0))

-- What takes an edit back leads from the instance that it made to the instance before.
use Rattle.std.proofs.Common.{◌≡◌, ℕ, ◌+◌, ◌-◌, ◌<◌, ◌==◌, Bool, true, false, not, ◌&&◌, List, [], ◌∷◌, ◌++◌, map, length, filter, find, All, Contains, Option, None, Some, option_map, unwrap_or, is_some, Ok, get_or, refl, sym, ap, ◌∙◌, arith}
use Rattle.std.specs.Bool.{then_some}
use Rattle.std.specs.Option.{option_map_or}
use Rattle.std.specs.List.{last_or}
use Rattle.std.proofs.lemmas.Bool.{eqb-true, eq-eqb, ne_eqb, le-leb}
use Rattle.std.proofs.lemmas.List.{length-map, get_or-map, map-append}
use Rattle.std.proofs.lemmas.List.Elements.{All-contains}
use Rattle.std.proofs.lemmas.Simd.{map-map}
use Rattle.std.specs.FinMap.{get}
use Rattle.location_terms.specs.declared.status.SiteStatus.{SiteStatus}
use Rattle.location_terms.specs.declared.status.SiteStatus.TheVariants.{Free}
use Rattle.location_terms.specs.Instance.{Instance, Site, Customer, IsValid, site_ids, customer_ids, site_at, customer_at, lane, fixed_of, demand_of}
use Rattle.location_terms.proofs.Places.{length-site_ids, length-customer_ids, slice_index-site_ids, slice_index-customer_ids}
use Rattle.instance_store.specs.Places.{lanes_from}
use Rattle.instance_store.proofs.PlaceLemmas.{place_of-slice_index}
use Rattle.instance_store.specs.Changes.{with_site, with_customer, with_row, with_column, without_site, without_customer, site_row, column_of}
use Rattle.instance_edits.specs.declared.edit.Edit.{Edit}
use Rattle.instance_edits.specs.declared.edit.Edit.TheVariants.{SetFixed, SetLane, SetDemand, SetCap, SetCount, AddSite, AddCust, DropSite, DropCust, SetStatus}
use Rattle.instance_edits.specs.declared.edit.Inverse.TheVariants.{DroppedSite, DroppedCust}
use Rattle.instance_edits.specs.Edits.{changed, lacks_site, lacks_customer, faults_of, edited}
use Rattle.instance_edits.specs.Undo.{site_named, place_among, inverse_of, undone}
use Rattle.instance_edits.proofs.ListEdits.{map_back, any_kept, filter_last, filter_one, length-filter_one, last_or-append, there, found, others}
use Rattle.instance_edits.proofs.LaneEdits.{lanes_with_back, lanes_and_back, lanes_and_out}
use Rattle.instance_edits.proofs.Faults.{none_of}

abbrev pub no_site : Site
no_site = record { id = 0; fixed = 0; cap = None; status = Free }

abbrev pub no_customer : Customer
no_customer = record { id = 0; demand = 0 }

not_false : (b : Bool) → b ≡ false → not b ≡ true
not_false b e = ap not e

leads_to : (b : Bool) (J I : Instance) → b ≡ true → J ≡ I → then_some b J ≡ Some I
leads_to b J I suit same = λ k. then_some (suit k) (same k)

module _ (I : Instance) (valid : IsValid I) where
  -- The place of an id.

  pub site_place : (s : ℕ) → lacks_site I s ≡ false → (i : ℕ) × (i < length I.sites) × ((site_at I i).id ≡ s)
  site_place s known = there (λ (x : Site). x.id) I.sites no_site s known

  pub customer_place : (c : ℕ) → lacks_customer I c ≡ false → (j : ℕ) × (j < length I.customers) × ((customer_at I j).id ≡ c)
  customer_place c known = there (λ (x : Customer). x.id) I.customers no_customer c known

  site_found : (s k : ℕ) (d : Site) → k < length I.sites → (get_or I.sites k d).id ≡ s → find (λ x. x.id == s) I.sites ≡ Some (get_or I.sites k d)
  site_found s k d below same = found (λ (x : Site). x.id) I.sites d valid.sites_named.rising s k below same

  customer_found : (c k : ℕ) (d : Customer) → k < length I.customers → (get_or I.customers k d).id ≡ c → find (λ x. x.id == c) I.customers ≡ Some (get_or I.customers k d)
  customer_found c k d below same = found (λ (x : Customer). x.id) I.customers d valid.customers_named.rising c k below same

  pub site_named-at : (s i : ℕ) → i < length I.sites → (site_at I i).id ≡ s → site_named I s ≡ site_at I i
  site_named-at s i within same = ap (λ (o : Option Site). unwrap_or o (record { id = s; fixed = 0; cap = None; status = Free })) (site_found s i no_site within same)

  pub fixed_of-at : (s i : ℕ) → i < length I.sites → (site_at I i).id ≡ s → fixed_of I s ≡ (site_at I i).fixed
  fixed_of-at s i within same = ap (λ (o : Option Site). unwrap_or (option_map (λ x. x.fixed) o) 0) (site_found s i no_site within same)

  pub demand_of-at : (c j : ℕ) → j < length I.customers → (customer_at I j).id ≡ c → demand_of I c ≡ (customer_at I j).demand
  demand_of-at c j within same = ap (λ (o : Option Customer). unwrap_or (option_map (λ x. x.demand) o) 0) (customer_found c j no_customer within same)

  pub place_among-site : (s i : ℕ) → i < length I.sites → (site_at I i).id ≡ s → place_among (site_ids I) s ≡ i
  place_among-site s i within same =
      ap (place_among (site_ids I)) (sym same ∙ sym (slice_index-site_ids I i within))
      ∙ ap (λ (o : Option ℕ). unwrap_or o 0) (place_of-slice_index (site_ids I) i valid.sites_named.rising (omega (arith, within, length-site_ids I)))

  pub place_among-customer : (c j : ℕ) → j < length I.customers → (customer_at I j).id ≡ c → place_among (customer_ids I) c ≡ j
  place_among-customer c j within same =
      ap (place_among (customer_ids I)) (sym same ∙ sym (slice_index-customer_ids I j within))
      ∙ ap (λ (o : Option ℕ). unwrap_or o 0) (place_of-slice_index (customer_ids I) j valid.customers_named.rising (omega (arith, within, length-customer_ids I)))

  -- Former values.

  site_back : (s : ℕ) (f g : Site → Site) → lacks_site I s ≡ false → ((x : Site) → (x.id == s) ≡ true → ((f x).id == s) ≡ true) → ((k : ℕ) (d : Site) → k < length I.sites → (get_or I.sites k d).id ≡ s → g (f (get_or I.sites k d)) ≡ get_or I.sites k d)
      → then_some (not (lacks_site (with_site I s f) s)) (with_site (with_site I s f) s g) ≡ Some I
  site_back s f g known keeps back =
      leads_to _ _ I
      (ap (λ b. not (not b)) (any_kept (λ x. x.id == s) f I.sites keeps) ∙ not_false (lacks_site I s) known)
      (λ k. record I { sites = map_back (λ x. x.id == s) f g I.sites (λ k d below is. (keeps (get_or I.sites k d) is, back k d below (eqb-true (get_or I.sites k d).id s is))) k })

  customer_back : (c : ℕ) (f g : Customer → Customer) → lacks_customer I c ≡ false → ((x : Customer) → (x.id == c) ≡ true → ((f x).id == c) ≡ true) → ((k : ℕ) (d : Customer) → k < length I.customers → (get_or I.customers k d).id ≡ c → g (f (get_or I.customers k d)) ≡ get_or I.customers k d)
      → then_some (not (lacks_customer (with_customer I c f) c)) (with_customer (with_customer I c f) c g) ≡ Some I
  customer_back c f g known keeps back =
      leads_to _ _ I
      (ap (λ b. not (not b)) (any_kept (λ x. x.id == c) f I.customers keeps) ∙ not_false (lacks_customer I c) known)
      (λ k. record I { customers = map_back (λ x. x.id == c) f g I.customers (λ k d below is. (keeps (get_or I.customers k d) is, back k d below (eqb-true (get_or I.customers k d).id c is))) k })

  fixed_back : (s cost : ℕ) → lacks_site I s ≡ false → undone (changed I (SetFixed s cost)) (inverse_of I (SetFixed s cost)) ≡ Some I
  fixed_back s cost known =
      site_back s (λ x. record x { fixed = cost }) (λ x. record x { fixed = fixed_of I s }) known (λ _ is. is) (λ k d below same.
      let was : fixed_of I s ≡ (get_or I.sites k d).fixed = ap (λ (o : Option Site). unwrap_or (option_map (λ x. x.fixed) o) 0) (site_found s k d below same) in
      λ i. record (get_or I.sites k d) { fixed = was i })

  cap_back : (s : ℕ) (cap : Option ℕ) → lacks_site I s ≡ false → undone (changed I (SetCap s cap)) (inverse_of I (SetCap s cap)) ≡ Some I
  cap_back s cap known =
      site_back s (λ x. record x { cap = cap }) (λ x. record x { cap = (site_named I s).cap }) known (λ _ is. is) (λ k d below same.
      let was : (site_named I s).cap ≡ (get_or I.sites k d).cap = ap (λ (o : Option Site). (unwrap_or o (record { id = s; fixed = 0; cap = None; status = Free })).cap) (site_found s k d below same) in
      λ i. record (get_or I.sites k d) { cap = was i })

  status_back : (s : ℕ) (status : SiteStatus) → lacks_site I s ≡ false → undone (changed I (SetStatus s status)) (inverse_of I (SetStatus s status)) ≡ Some I
  status_back s status known =
      site_back s (λ x. record x { status = status }) (λ x. record x { status = (site_named I s).status }) known (λ _ is. is) (λ k d below same.
      let was : (site_named I s).status ≡ (get_or I.sites k d).status = ap (λ (o : Option Site). (unwrap_or o (record { id = s; fixed = 0; cap = None; status = Free })).status) (site_found s k d below same) in
      λ i. record (get_or I.sites k d) { status = was i })

  demand_back : (c demand : ℕ) → lacks_customer I c ≡ false → undone (changed I (SetDemand c demand)) (inverse_of I (SetDemand c demand)) ≡ Some I
  demand_back c demand known =
      customer_back c (λ x. record x { demand = demand }) (λ x. record x { demand = demand_of I c }) known (λ _ is. is) (λ k d below same.
      let was : demand_of I c ≡ (get_or I.customers k d).demand = ap (λ (o : Option Customer). unwrap_or (option_map (λ x. x.demand) o) 0) (customer_found c k d below same) in
      λ i. record (get_or I.customers k d) { demand = was i })

  lane_back : (s c : ℕ) (cost : Option ℕ) → lacks_site I s ≡ false → lacks_customer I c ≡ false → undone (changed I (SetLane s c cost)) (inverse_of I (SetLane s c cost)) ≡ Some I
  lane_back s c cost site customer =
      leads_to _ _ I (λ k. not_false (lacks_site I s) site k && not_false (lacks_customer I c) customer k)
      (λ k. record I { lanes = lanes_with_back I.lanes s c cost k })

  -- What came goes.

  pub below_next_site : (s : ℕ) → Contains (site_ids I) s → s < I.next_site
  below_next_site s among = All-contains (λ n. n < I.next_site) (site_ids I) s valid.sites_named.below_next among

  pub below_next_customer : (c : ℕ) → Contains (customer_ids I) c → c < I.next_customer
  below_next_customer c among = All-contains (λ n. n < I.next_customer) (customer_ids I) c valid.customers_named.below_next among

  pub no_lane : (q : ℕ × ℕ) → ((Contains (site_ids I) q.0 × Contains (customer_ids I) q.1) → ⊥) → get I.lanes q ≡ None
  no_lane q apart = by (get I.lanes q) refl
    where
      by : (o : Option ℕ) → get I.lanes q ≡ o → get I.lanes q ≡ None
      by None e = e
      by (Some cost) e = absurd (apart (valid.lanes_known q.0 q.1 (ap is_some e)))

  new_site_back : (cost : ℕ) (cap : Option ℕ) (row : List (Option ℕ)) → undone (changed I (AddSite cost cap row)) (inverse_of I (AddSite cost cap row)) ≡ Some I
  new_site_back cost cap row =
      let n = I.next_site in
      let y : Site = record { id = n; fixed = cost; cap = cap; status = Free } in
      let apart : All (λ (x : Site). (x.id == n) ≡ false) I.sites = λ k d below. ne_eqb (get_or I.sites k d).id n (λ same.
      let less = valid.sites_named.below_next k 0 (omega (arith, below, length-site_ids I)) in omega (arith, same, less, get_or-map (λ (x : Site). x.id) I.sites k d 0 below)) in
      let less : (n + 1) - 1 ≡ n = omega arith in
      let goes : filter (λ x. not (x.id == n)) (I.sites ++ y ∷ []) ≡ I.sites = filter_last (λ x. x.id == n) I.sites y apart (eq-eqb n n refl) in
      let lanes_go = lanes_and_out (λ c. (n, c)) I.lanes (λ q. q.0 == n) (customer_ids I) row (λ q is. no_lane q (λ among. let low = below_next_site q.0 among.0 in omega (arith, low, eqb-true q.0 n is))) (λ _. eq-eqb n n refl) in
      leads_to _ _ I
      (ap (λ (o : Option ℕ). option_map_or (λ x. x == n) o false) (ap (last_or None) (map-append (λ (x : Site). x.id) I.sites (y ∷ [])) ∙ last_or-append None (site_ids I) n) ∙ eq-eqb n n refl)
      (λ k. record I { sites = goes k; lanes = lanes_go k; next_site = less k })

  new_customer_back : (demand : ℕ) (column : List (Option ℕ)) → undone (changed I (AddCust demand column)) (inverse_of I (AddCust demand column)) ≡ Some I
  new_customer_back demand column =
      let n = I.next_customer in
      let y : Customer = record { id = n; demand = demand } in
      let apart : All (λ (x : Customer). (x.id == n) ≡ false) I.customers = λ k d below. ne_eqb (get_or I.customers k d).id n (λ same.
      let less = valid.customers_named.below_next k 0 (omega (arith, below, length-customer_ids I)) in omega (arith, same, less, get_or-map (λ (x : Customer). x.id) I.customers k d 0 below)) in
      let less : (n + 1) - 1 ≡ n = omega arith in
      let goes : filter (λ x. not (x.id == n)) (I.customers ++ y ∷ []) ≡ I.customers = filter_last (λ x. x.id == n) I.customers y apart (eq-eqb n n refl) in
      let lanes_go = lanes_and_out (λ s. (s, n)) I.lanes (λ q. q.1 == n) (site_ids I) column (λ q is. no_lane q (λ among. let low = below_next_customer q.1 among.1 in omega (arith, low, eqb-true q.1 n is))) (λ _. eq-eqb n n refl) in
      leads_to _ _ I
      (ap (λ (o : Option ℕ). option_map_or (λ x. x == n) o false) (ap (last_or None) (map-append (λ (x : Customer). x.id) I.customers (y ∷ [])) ∙ last_or-append None (customer_ids I) n) ∙ eq-eqb n n refl)
      (λ k. record I { customers = goes k; lanes = lanes_go k; next_customer = less k })

  -- What went comes back.

  site_returns : (i : ℕ) → i < length I.sites → undone (without_site I (site_at I i).id) (DroppedSite i (site_row I (site_at I i)) (site_at I i).status) ≡ Some I
  site_returns i within =
      let s = (site_at I i).id in
      let is : ((get_or I.sites i no_site).id == s) ≡ true = eq-eqb s s refl in
      let apart = others (λ (x : Site). x.id) I.sites no_site valid.sites_named.rising s i within refl in
      let fewer = length-filter_one (λ (x : Site). x.id == s) I.sites i no_site within is apart in
      let sites_back = filter_one (λ (x : Site). x.id == s) I.sites i no_site within is apart in
      let row : lanes_from I (site_at I i) ≡ map (λ c. get I.lanes (s, c)) (customer_ids I) = sym (map-map (λ c. get I.lanes (s, c)) (λ (c : Customer). c.id) I.customers) in
      let lanes_back = ap (with_row (without_site I s).lanes s (customer_ids I)) row
      ∙ lanes_and_back (λ c. (s, c)) I.lanes (λ q. q.0 == s) (customer_ids I) (λ q at some. (q.1, (valid.lanes_known q.0 q.1 some).1, λ k. (eqb-true q.0 s at k, q.1))) in
      leads_to _ _ I
      (λ k. le-leb i (length (without_site I s).sites) (omega (arith, within, fewer)) k && eq-eqb (length (lanes_from I (site_at I i))) (length I.customers) (length-map I.customers (λ (c : Customer). lane I s c.id)) k)
      (λ k. record I { sites = sites_back k; lanes = lanes_back k })

  customer_returns : (j : ℕ) → j < length I.customers → undone (without_customer I (customer_at I j).id) (DroppedCust j (record { id = (customer_at I j).id; demand = (customer_at I j).demand }) (column_of I (customer_at I j).id)) ≡ Some I
  customer_returns j within =
      let c = (customer_at I j).id in
      let is : ((get_or I.customers j no_customer).id == c) ≡ true = eq-eqb c c refl in
      let apart = others (λ (x : Customer). x.id) I.customers no_customer valid.customers_named.rising c j within refl in
      let fewer = length-filter_one (λ (x : Customer). x.id == c) I.customers j no_customer within is apart in
      let customers_back = filter_one (λ (x : Customer). x.id == c) I.customers j no_customer within is apart in
      let column : column_of I c ≡ map (λ s. get I.lanes (s, c)) (site_ids I) = sym (map-map (λ s. get I.lanes (s, c)) (λ (x : Site). x.id) I.sites) in
      let lanes_back = ap (with_column (without_customer I c).lanes c (site_ids I)) column
      ∙ lanes_and_back (λ s. (s, c)) I.lanes (λ q. q.1 == c) (site_ids I) (λ q at some. (q.0, (valid.lanes_known q.0 q.1 some).0, λ k. (q.0, eqb-true q.1 c at k))) in
      leads_to _ _ I
      (λ k. le-leb j (length (without_customer I c).customers) (omega (arith, within, fewer)) k && eq-eqb (length (column_of I c)) (length I.sites) (length-map I.sites (λ (x : Site). lane I x.id c)) k)
      (λ k. record I { customers = customers_back k; lanes = lanes_back k })

  dropped_site_back : (s : ℕ) → lacks_site I s ≡ false → undone (changed I (DropSite s)) (inverse_of I (DropSite s)) ≡ Some I
  dropped_site_back s known =
      let at = site_place s known in
      let place = place_among-site s at.0 at.1 at.2 in
      let named = site_named-at s at.0 at.1 at.2 in
      (λ k. undone (without_site I (sym at.2 k)) (DroppedSite (place k) (site_row I (named k)) (named k).status)) ∙ site_returns at.0 at.1

  dropped_customer_back : (c : ℕ) → lacks_customer I c ≡ false → undone (changed I (DropCust c)) (inverse_of I (DropCust c)) ≡ Some I
  dropped_customer_back c known =
      let at = customer_place c known in
      let place = place_among-customer c at.0 at.1 at.2 in
      let demand = demand_of-at c at.0 at.1 at.2 in
      (λ k. undone (without_customer I (sym at.2 k)) (DroppedCust (place k) (record { id = sym at.2 k; demand = demand k }) (column_of I (sym at.2 k)))) ∙ customer_returns at.0 at.1

  -- an edit that is accepted, and taken back
  pub restored : (e : Edit) → edited I e ≡ Ok (changed I e) → undone (changed I e) (inverse_of I e) ≡ Some I
  restored (SetFixed s cost) ok = fixed_back s cost (none_of _ _ (faults_of I (SetFixed s cost)) ok).0
  restored (SetLane s c cost) ok = let none = none_of _ _ (faults_of I (SetLane s c cost)) ok in lane_back s c cost none.0 none.1.0
  restored (SetDemand c demand) ok = demand_back c demand (none_of _ _ (faults_of I (SetDemand c demand)) ok).0
  restored (SetCap s cap) ok = cap_back s cap (none_of _ _ (faults_of I (SetCap s cap)) ok).0
  restored (SetCount lo hi) ok = refl
  restored (AddSite cost cap row) ok = new_site_back cost cap row
  restored (AddCust demand column) ok = new_customer_back demand column
  restored (DropSite s) ok = dropped_site_back s (none_of _ _ (faults_of I (DropSite s)) ok).0
  restored (DropCust c) ok = dropped_customer_back c (none_of _ _ (faults_of I (DropCust c)) ok).0
  restored (SetStatus s status) ok = status_back s status (none_of _ _ (faults_of I (SetStatus s status)) ok).0

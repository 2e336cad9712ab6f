-- An instance to which a site or a customer comes is valid.
use Rattle.std.proofs.Common.{◌≡◌, ◌≢◌, ℕ, ◌+◌, ◌*◌, ◌≤◌, ◌<◌, ◌||◌, nat_lt, false, List, [], ◌∷◌, ◌++◌, length, All, Contains, Option, None, Some, IfSome, IsSome, is_some, refl, sym, ap, subst, ◌∙◌, arith}
use Rattle.std.proofs.lemmas.Bool.{or_parts, ltb-false, eqb-false}
use Rattle.std.proofs.lemmas.List.{length-append, map-append}
use Rattle.std.proofs.lemmas.List.Elements.{All-nil, All-cons, All-append, All-contains, Contains-get_or, Contains-append_left, Contains-append_right}
use Rattle.std.proofs.lemmas.List.Edits.{insert_end}
use Rattle.std.proofs.lemmas.Option.{IfSome_then}
use Rattle.std.specs.FinMap.{get}
use Rattle.location_terms.specs.declared.limits.TheConstants.{MAX_AMOUNT, MAX_SITES, MAX_CUSTOMERS, MAX_LANES, MAX_ID}
use Rattle.location_terms.specs.declared.status.SiteStatus.TheVariants.{Free}
use Rattle.location_terms.specs.Instance.{Instance, Site, Customer, AreIds, AreSizes, IsValid, site_ids, customer_ids}
use Rattle.instance_store.specs.Small.{IsSmall, AreSmall}
use Rattle.instance_store.specs.Changes.{with_next_ids, with_site_in, with_customer_in}
use Rattle.instance_edits.specs.Edits.{with_new_site, with_new_customer, are_too_many, are_ids_spent}
use Rattle.instance_edits.proofs.ListEdits.{rises}
use Rattle.instance_edits.proofs.LaneEdits.{lanes_and_hold}

-- the last of a list is in it
last_in : {X : Type 0} (xs : List X) (y : X) → Contains (xs ++ y ∷ []) y
last_in xs y = Contains-append_right xs (y ∷ []) y (Contains-get_or (y ∷ []) 0 y (omega arith))

all_with : {X : Type 0} (P : X → Type 0) (xs : List X) (y : X) → All P xs → P y → All P (xs ++ y ∷ [])
all_with P xs y all is = All-append P xs (y ∷ []) all (All-cons P y [] is (All-nil P))

-- ids stay below a next id that rises
pub ids_below : (ids : List ℕ) (next : ℕ) → next ≢ MAX_ID + 1 → AreIds ids next → AreIds ids (next + 1)
ids_below ids next more are = record {
  positive = are.positive;
  rising = are.rising;
  below_next = λ k d below. let less = are.below_next k d below in omega (arith, less);
  next_positive = omega arith;
  next_small = let small = are.next_small in omega (arith, small, more);
}

-- the next id, behind the others
ids_with : (ids : List ℕ) (next : ℕ) → next ≢ MAX_ID + 1 → AreIds ids next → AreIds (ids ++ next ∷ []) (next + 1)
ids_with ids next more are = record {
  positive = all_with (λ n. 1 ≤ n) ids next are.positive are.next_positive;
  rising = rises ids next are.rising are.below_next;
  below_next = all_with (λ n. n < next + 1) ids next (λ k d below. let less = are.below_next k d below in omega (arith, less)) (omega arith);
  next_positive = omega arith;
  next_small = let small = are.next_small in omega (arith, small, more);
}

pub ids_left : (next : ℕ) → are_ids_spent next ≡ false → next ≢ MAX_ID + 1
ids_left next left = eqb-false next (MAX_ID + 1) left

within_limits : (m n : ℕ) → are_too_many m n ≡ false → 1 ≤ m → 1 ≤ n → AreSizes m n
within_limits m n few some_m some_n =
    let both = or_parts (nat_lt MAX_SITES m || nat_lt MAX_CUSTOMERS n) (nat_lt MAX_LANES (m * n)) few in
    let parts = or_parts (nat_lt MAX_SITES m) (nat_lt MAX_CUSTOMERS n) both.0 in
    record {
      some_site = some_m;
      few_sites = ltb-false MAX_SITES m parts.0;
      some_customer = some_n;
      few_customers = ltb-false MAX_CUSTOMERS n parts.1;
      few_lanes = ltb-false MAX_LANES (m * n) both.1;
    }

-- what is known of each lane
abbrev IsLane : List ℕ → List ℕ → ℕ × ℕ → ℕ → Type 0
IsLane ss cs q cost = Contains ss q.0 × Contains cs q.1 × (cost ≤ MAX_AMOUNT)

small_of : (ss cs : List ℕ) (q : ℕ × ℕ) (o : Option ℕ) → IfSome o (IsLane ss cs q) → IfSome o (λ cost. cost ≤ MAX_AMOUNT)
small_of ss cs q None h = tt
small_of ss cs q (Some cost) h = h.2

some_value : (o : Option ℕ) (P : ℕ → Type 0) (Q : Type 0) → IsSome o → IfSome o P → ((cost : ℕ) → P cost → Q) → Q
some_value None P Q some if then = absurd cc
some_value (Some cost) P Q some if then = then cost if

module _ (I : Instance) (valid : IsValid I) where
  lanes_are : (q : ℕ × ℕ) → IfSome (get I.lanes q) (IsLane (site_ids I) (customer_ids I) q)
  lanes_are q = by (get I.lanes q) refl
    where
      by : (o : Option ℕ) → get I.lanes q ≡ o → IfSome (get I.lanes q) (IsLane (site_ids I) (customer_ids I) q)
      by None e = subst (λ o. IfSome o (IsLane (site_ids I) (customer_ids I) q)) (sym e) tt
      by (Some cost) e =
          let known = valid.lanes_known q.0 q.1 (ap is_some e) in
          let small = subst (λ o. IfSome o (λ n. n ≤ MAX_AMOUNT)) e (valid.lanes_small q.0 q.1) in
          subst (λ o. IfSome o (IsLane (site_ids I) (customer_ids I) q)) (sym e) (known.0, known.1, small)

  module _ (cost : ℕ) (cap : Option ℕ) (row : List (Option ℕ)) (fixed_small : cost ≤ MAX_AMOUNT) (cap_small : IsSmall cap) (lanes_small : AreSmall row) (few : are_too_many (length I.sites + 1) (length I.customers) ≡ false) (left : are_ids_spent I.next_site ≡ false) where
    pub IsValid-with_new_site : IsValid (with_new_site I cost cap row)
    IsValid-with_new_site =
        let y : Site = record { id = I.next_site; fixed = cost; cap = cap; status = Free } in
        let ids : site_ids (with_new_site I cost cap row) ≡ site_ids I ++ I.next_site ∷ [] = map-append (λ (x : Site). x.id) I.sites (y ∷ []) in
        let count : length (I.sites ++ y ∷ []) ≡ length I.sites + 1 = length-append I.sites (y ∷ []) in
        let each : (q : ℕ × ℕ) → IfSome (get (with_new_site I cost cap row).lanes q) (IsLane (site_ids (with_new_site I cost cap row)) (customer_ids I) q) = λ q.
        subst (λ (ss : List ℕ). IfSome (get (with_new_site I cost cap row).lanes q) (IsLane ss (customer_ids I) q)) (sym ids)
        (lanes_and_hold (λ c. (I.next_site, c)) (IsLane (site_ids I ++ I.next_site ∷ []) (customer_ids I)) I.lanes (customer_ids I) row q
        (IfSome_then (get I.lanes q) (lanes_are q) (λ _ is. (Contains-append_left (site_ids I) (I.next_site ∷ []) q.0 is.0, is.1, is.2)))
        (λ c k i there. (last_in (site_ids I) I.next_site, i, All-contains IsSmall row (Some k) lanes_small there))) in
        record {
          sites_named = subst (λ ss. AreIds ss (I.next_site + 1)) (sym ids) (ids_with (site_ids I) I.next_site (ids_left I.next_site left) valid.sites_named);
          customers_named = valid.customers_named;
          lanes_known = λ s c some. some_value _ _ _ some (each (s, c)) (λ _ is. (is.0, is.1));
          lanes_small = λ s c. small_of _ _ (s, c) _ (each (s, c));
          fixed_small = all_with (λ (x : Site). x.fixed ≤ MAX_AMOUNT) I.sites y valid.fixed_small fixed_small;
          caps_small = all_with (λ (x : Site). IsSmall x.cap) I.sites y valid.caps_small cap_small;
          demands_small = valid.demands_small;
          sizes = within_limits _ _ (subst (λ m. are_too_many m (length I.customers) ≡ false) (sym count) few) (omega (arith, count)) valid.sizes.some_customer;
          count_order = valid.count_order;
          count_small = valid.count_small;
        }

  module _ (demand : ℕ) (column : List (Option ℕ)) (demand_small : demand ≤ MAX_AMOUNT) (lanes_small : AreSmall column) (few : are_too_many (length I.sites) (length I.customers + 1) ≡ false) (left : are_ids_spent I.next_customer ≡ false) where
    pub IsValid-with_new_customer : IsValid (with_new_customer I demand column)
    IsValid-with_new_customer =
        let y : Customer = record { id = I.next_customer; demand = demand } in
        let ids : customer_ids (with_new_customer I demand column) ≡ customer_ids I ++ I.next_customer ∷ [] = map-append (λ (x : Customer). x.id) I.customers (y ∷ []) in
        let count : length (I.customers ++ y ∷ []) ≡ length I.customers + 1 = length-append I.customers (y ∷ []) in
        let each : (q : ℕ × ℕ) → IfSome (get (with_new_customer I demand column).lanes q) (IsLane (site_ids I) (customer_ids (with_new_customer I demand column)) q) = λ q.
        subst (λ (cs : List ℕ). IfSome (get (with_new_customer I demand column).lanes q) (IsLane (site_ids I) cs q)) (sym ids)
        (lanes_and_hold (λ s. (s, I.next_customer)) (IsLane (site_ids I) (customer_ids I ++ I.next_customer ∷ [])) I.lanes (site_ids I) column q
        (IfSome_then (get I.lanes q) (lanes_are q) (λ _ is. (is.0, Contains-append_left (customer_ids I) (I.next_customer ∷ []) q.1 is.1, is.2)))
        (λ s k i there. (i, last_in (customer_ids I) I.next_customer, All-contains IsSmall column (Some k) lanes_small there))) in
        record {
          sites_named = valid.sites_named;
          customers_named = subst (λ cs. AreIds cs (I.next_customer + 1)) (sym ids) (ids_with (customer_ids I) I.next_customer (ids_left I.next_customer left) valid.customers_named);
          lanes_known = λ s c some. some_value _ _ _ some (each (s, c)) (λ _ is. (is.0, is.1));
          lanes_small = λ s c. small_of _ _ (s, c) _ (each (s, c));
          fixed_small = valid.fixed_small;
          caps_small = valid.caps_small;
          demands_small = all_with (λ (x : Customer). x.demand ≤ MAX_AMOUNT) I.customers y valid.demands_small demand_small;
          sizes = within_limits _ _ (subst (λ n. are_too_many (length I.sites) n ≡ false) (sym count) few) valid.sizes.some_site (omega (arith, count));
          count_order = valid.count_order;
          count_small = valid.count_small;
        }

-- what comes behind the others, once the next id is raised
pub site_comes : (I J : Instance) (ids : ℕ × ℕ) (id place cost : ℕ) (cap : Option ℕ) (row lanes : List (Option ℕ)) → ids ≡ (I.next_site, I.next_customer) → id ≡ ids.0 → place ≡ length I.sites → row ≡ lanes → J ≡ with_next_ids I (ids.0 + 1) ids.1
    → with_site_in J place (record { id = id; fixed = cost; cap = cap; lanes = row }) Free ≡ with_new_site I cost cap lanes
site_comes I J ids id place cost cap row lanes are named last same raised =
    let to : J ≡ with_next_ids I (I.next_site + 1) I.next_customer = raised ∙ ap (λ (p : ℕ × ℕ). with_next_ids I (p.0 + 1) p.1) are in
    let next : id ≡ I.next_site = named ∙ ap (λ (p : ℕ × ℕ). p.0) are in
    (λ k. with_site_in (to k) (last k) (record { id = next k; fixed = cost; cap = cap; lanes = same k }) Free)
    ∙ (λ k. record (with_new_site I cost cap lanes) { sites = insert_end I.sites (record { id = I.next_site; fixed = cost; cap = cap; status = Free }) k })

pub customer_comes : (I J : Instance) (ids : ℕ × ℕ) (id place demand : ℕ) (lanes : List (Option ℕ)) → ids ≡ (I.next_site, I.next_customer) → id ≡ ids.1 → place ≡ length I.customers → J ≡ with_next_ids I ids.0 (ids.1 + 1)
    → with_customer_in J place (record { id = id; demand = demand }) lanes ≡ with_new_customer I demand lanes
customer_comes I J ids id place demand lanes are named last raised =
    let to : J ≡ with_next_ids I I.next_site (I.next_customer + 1) = raised ∙ ap (λ (p : ℕ × ℕ). with_next_ids I p.0 (p.1 + 1)) are in
    let next : id ≡ I.next_customer = named ∙ ap (λ (p : ℕ × ℕ). p.1) are in
    (λ k. with_customer_in (to k) (last k) (record { id = next k; demand = demand }) lanes)
    ∙ (λ k. record (with_new_customer I demand lanes) { customers = insert_end I.customers (record { id = I.next_customer; demand = demand }) k })

-- An instance is ready for what leads back to a valid one.
use Rattle.std.proofs.Common.{◌≡◌, ℕ, zero, suc, ◌+◌, ◌-◌, ◌≤◌, ◌<◌, ◌==◌, Bool, true, false, cond, not, ◌&&◌, List, [], ◌∷◌, map, length, All, Option, None, Some, IsSomeAnd, get_or, slice_index, if◌then◌else◌, refl, sym, ap, subst, ◌∙◌, arith}
use Rattle.std.specs.Bool.{then_some}
use Rattle.std.specs.Option.{option_map_or}
use Rattle.std.specs.List.{last_or}
use Rattle.std.specs.FinMap.{get}
use Rattle.std.proofs.lemmas.Bool.{eqb-true, eq-eqb, leb-true}
use Rattle.std.proofs.lemmas.List.{length-map, get_or-map}
use Rattle.location_terms.specs.declared.limits.TheConstants.{MAX_AMOUNT}
use Rattle.location_terms.specs.Instance.{Instance, Site, Customer, IsValid, site_ids, customer_ids, site_at, customer_at}
use Rattle.location_terms.proofs.Places.{length-site_ids, length-customer_ids, slice_index-site_ids, slice_index-customer_ids}
use Rattle.instance_store.specs.Small.{IsSmall}
use Rattle.instance_store.specs.Changes.{with_fixed, with_cap, with_demand, with_lane_cost, without_site, without_customer}
use Rattle.instance_edits.specs.declared.edit.Inverse.{Inverse}
use Rattle.instance_edits.specs.declared.edit.Inverse.TheVariants.{FormerFixed, FormerLane, FormerDemand, FormerCap, FormerCount, AddedSite, AddedCust, DroppedSite, DroppedCust, FormerStatus}
use Rattle.instance_edits.specs.Edits.{lacks_site, lacks_customer}
use Rattle.instance_edits.specs.Undo.{is_last, suits, put_back}
use Rattle.instance_edits.specs.Ready.{CanLoseSite, CanLoseCustomer, IsReadyFor}
use Rattle.instance_edits.proofs.ListEdits.{length-filter_one, others}
use Rattle.location_terms.proofs.Table.{pair_tied}
use Rattle.instance_edits.proofs.LaneEdits.{get-lanes_with}
use Rattle.instance_edits.proofs.Restored.{site_place, customer_place, no_site, no_customer}

isnt : (b : Bool) → not b ≡ true → b ≡ false
isnt true e = cc
isnt false e = refl

and_parts : (a b : Bool) → a && b ≡ true → (a ≡ true) × (b ≡ true)
and_parts true b e = (refl, e)
and_parts false b e = absurd cc

-- the last of ids
last_is : (o : Option ℕ) (ids : List ℕ) (s i : ℕ) → i + 1 ≡ length ids → option_map_or (λ x. x == s) (last_or o ids) false ≡ true → slice_index ids i ≡ s
last_is o [] s i count is = absurd (omega arith)
last_is o (x ∷ []) s zero count is = eqb-true x s is
last_is o (x ∷ []) s (suc i) count is = absurd (omega arith)
last_is o (x ∷ y ∷ ids) s zero count is = absurd (omega arith)
last_is o (x ∷ y ∷ ids) s (suc i) count is = last_is (Some x) (y ∷ ids) s i (omega arith) is

-- what holds of all once what passes the test is changed holds of what it is changed to
holds_changed : {X : Type 0} (P : X → Type 0) (p : X → Bool) (f : X → X) (xs : List X) (i : ℕ) (d : X) → i < length xs → p (get_or xs i d) ≡ true → All P (map (λ x. if p x then f x else x) xs) → P (f (get_or xs i d))
holds_changed {X} P p f xs i d below is all =
    let change = λ (x : X). if p x then f x else x in
    subst P (get_or-map change xs i d d below ∙ ap (λ b. cond b (f (get_or xs i d)) (get_or xs i d)) is) (all i d (omega (arith, below, length-map xs change)))

pub leads_back : (b : Bool) (J : Instance) → IsSomeAnd (then_some b J) IsValid → (b ≡ true) × IsValid J
leads_back true J leads = (refl, leads)
leads_back false J leads = absurd leads

module _ (I : Instance) (valid : IsValid I) where
  fixed_small : (s cost : ℕ) → lacks_site I s ≡ false → IsValid (with_fixed I s cost) → cost ≤ MAX_AMOUNT
  fixed_small s cost known to =
      let at = site_place I valid s known in
      holds_changed (λ (x : Site). x.fixed ≤ MAX_AMOUNT) (λ x. x.id == s) (λ x. record x { fixed = cost }) I.sites at.0 no_site at.1 (eq-eqb (site_at I at.0).id s at.2) to.fixed_small

  cap_small : (s : ℕ) (cap : Option ℕ) → lacks_site I s ≡ false → IsValid (with_cap I s cap) → IsSmall cap
  cap_small s cap known to =
      let at = site_place I valid s known in
      holds_changed (λ (x : Site). IsSmall x.cap) (λ x. x.id == s) (λ x. record x { cap = cap }) I.sites at.0 no_site at.1 (eq-eqb (site_at I at.0).id s at.2) to.caps_small

  demand_small : (c demand : ℕ) → lacks_customer I c ≡ false → IsValid (with_demand I c demand) → demand ≤ MAX_AMOUNT
  demand_small c demand known to =
      let at = customer_place I valid c known in
      holds_changed (λ (x : Customer). x.demand ≤ MAX_AMOUNT) (λ x. x.id == c) (λ x. record x { demand = demand }) I.customers at.0 no_customer at.1 (eq-eqb (customer_at I at.0).id c at.2) to.demands_small

  lane_small : (s c : ℕ) (cost : Option ℕ) → IsValid (with_lane_cost I s c cost) → IsSmall cost
  lane_small s c cost to =
      subst IsSmall (get-lanes_with I.lanes s c cost (s, c) ∙ ap (λ b. cond b cost (get I.lanes (s, c))) (pair_tied (s, c))) (to.lanes_small s c)

  last_site : (s : ℕ) → is_last (site_ids I) s ≡ true → (site_at I (length I.sites - 1)).id ≡ s
  last_site s is =
      let some = valid.sizes.some_site in
      sym (slice_index-site_ids I (length I.sites - 1) (omega (arith, some)))
      ∙ last_is None (site_ids I) s (length I.sites - 1) (omega (arith, some, length-site_ids I)) is

  last_customer : (c : ℕ) → is_last (customer_ids I) c ≡ true → (customer_at I (length I.customers - 1)).id ≡ c
  last_customer c is =
      let some = valid.sizes.some_customer in
      sym (slice_index-customer_ids I (length I.customers - 1) (omega (arith, some)))
      ∙ last_is None (customer_ids I) c (length I.customers - 1) (omega (arith, some, length-customer_ids I)) is

  can_lose_site : (s : ℕ) → is_last (site_ids I) s ≡ true → IsValid (record (without_site I s) { next_site = I.next_site - 1 }) → CanLoseSite I s
  can_lose_site s is to =
      let some = valid.sizes.some_site in
      let i = length I.sites - 1 in
      let within : i < length I.sites = omega (arith, some) in
      let id = last_site s is in
      let one = length-filter_one (λ (x : Site). x.id == s) I.sites i no_site within (eq-eqb (site_at I i).id s id) (others (λ (x : Site). x.id) I.sites no_site valid.sites_named.rising s i within id) in
      let left = to.sizes.some_site in
      (omega (arith, one, left), to.sites_named)

  can_lose_customer : (c : ℕ) → is_last (customer_ids I) c ≡ true → IsValid (record (without_customer I c) { next_customer = I.next_customer - 1 }) → CanLoseCustomer I c
  can_lose_customer c is to =
      let some = valid.sizes.some_customer in
      let j = length I.customers - 1 in
      let within : j < length I.customers = omega (arith, some) in
      let id = last_customer c is in
      let one = length-filter_one (λ (x : Customer). x.id == c) I.customers j no_customer within (eq-eqb (customer_at I j).id c id) (others (λ (x : Customer). x.id) I.customers no_customer valid.customers_named.rising c j within id) in
      let left = to.sizes.some_customer in
      (omega (arith, one, left), to.customers_named)

  pub ready : (b : Inverse) → suits I b ≡ true → IsValid (put_back I b) → IsReadyFor I b
  ready (FormerFixed s cost) suit to = let known = isnt _ suit in (known, fixed_small s cost known to)
  ready (FormerLane s c cost) suit to = let both = and_parts _ _ suit in (isnt _ both.0, isnt _ both.1, lane_small s c cost to)
  ready (FormerDemand c demand) suit to = let known = isnt _ suit in (known, demand_small c demand known to)
  ready (FormerCap s cap) suit to = let known = isnt _ suit in (known, cap_small s cap known to)
  ready (FormerCount lo hi) suit to = (to.count_order, to.count_small)
  ready (AddedSite s) suit to = let lose = can_lose_site s suit to in (last_site s suit, lose)
  ready (AddedCust c) suit to = let lose = can_lose_customer c suit to in (last_customer c suit, lose)
  ready (DroppedSite place row status) suit to = let both = and_parts _ _ suit in (leb-true place (length I.sites) both.0, eqb-true (length row.lanes) (length I.customers) both.1, to)
  ready (DroppedCust place row lanes) suit to = let both = and_parts _ _ suit in (leb-true place (length I.customers) both.0, eqb-true (length lanes) (length I.sites) both.1, to)
  ready (FormerStatus s status) suit to = isnt _ suit

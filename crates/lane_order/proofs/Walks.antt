-- What a walk takes from an order of an instance.
use Rattle.std.proofs.Common.{◌≡◌, ◌⊎◌, ℕ, zero, suc, ◌<◌, ◌≤◌, Bool, true, false, cond, inl, inr, List, [], ◌∷◌, map, length, All, Contains, None, Some, find, get_or, slice_index, nat_lt, refl, sym, ap, subst, ◌∙◌, arith}
use Rattle.std.proofs.lemmas.Bool.{cases_order, ltb-true, ltb-false}
use Rattle.std.proofs.lemmas.List.{length-map, get_or-map}
use Rattle.std.proofs.lemmas.List.Elements.{All-nil, All-cons, All-contains}
use Rattle.std.specs.List.Sorted.{IsStrictlyIncreasing}
use Rattle.location_terms.specs.Instance.{Instance, site_at, customer_at, site_ids, lane}
use Rattle.location_terms.proofs.Places.{length-site_ids, slice_index-site_ids}
use Rattle.location_terms.proofs.Rising.{one_place}
use Rattle.lane_order.specs.declared.order.PlacedLane.{PlacedLane}
use Rattle.lane_order.specs.Order.{Order, IsBefore, IsOrderOf, lanes_to, next_above}
use Rattle.lane_order.specs.Placed.{named}

-- x is the first element that passes
record IsFirst {X : Type 0} (p : X → Bool) (xs : List X) (x : X) : Type 0 where
  pub place : ℕ
  pub within : place < length xs
  pub is : (d : X) → get_or xs place d ≡ x
  pub passes : p x ≡ true
  pub before : (k : ℕ) (d : X) → k < place → p (get_or xs k d) ≡ false

IsFirst-find : {X : Type 0} (p : X → Bool) (xs : List X) (x : X) → find p xs ≡ Some x → IsFirst p xs x
IsFirst-find p [] x found = cc
IsFirst-find {X} p (y ∷ ys) x found = by (p y) refl found (IsFirst-find p ys x)
  where
    by : (b : Bool) → p y ≡ b → cond b (Some y) (find p ys) ≡ Some x → (find p ys ≡ Some x → IsFirst p ys x) → IsFirst p (y ∷ ys) x
    by true passes is _ =
        let same : y ≡ x = cc in
        record { place = 0; within = omega arith; is = λ d. same; passes = subst (λ z. p z ≡ true) same passes; before = λ k d below. absurd (omega arith) }
    by false fails is rest =
        let later = rest is in
        record { place = suc later.place; within = omega (arith, later.within); is = later.is; passes = later.passes; before = early later.place later.before }
      where
        early : (n : ℕ) → ((k : ℕ) (d : X) → k < n → p (get_or ys k d) ≡ false) → (k : ℕ) (d : X) → k < suc n → p (get_or (y ∷ ys) k d) ≡ false
        early n before zero d below = fails
        early n before (suc k) d below = before k d (omega arith)

fail_all : {X : Type 0} (p : X → Bool) (xs : List X) → find p xs ≡ None → All (λ x. p x ≡ false) xs
fail_all p [] none = All-nil _
fail_all p (y ∷ ys) none = by (p y) refl none (fail_all p ys)
  where
    by : (b : Bool) → p y ≡ b → cond b (Some y) (find p ys) ≡ None → (find p ys ≡ None → All (λ x. p x ≡ false) ys) → All (λ x. p x ≡ false) (y ∷ ys)
    by true passes is _ = cc
    by false fails is rest = All-cons (λ x. p x ≡ false) y ys fails (rest is)

module _ (I : Instance) (order : Order) (of : IsOrderOf order I) (j : ℕ) (within : j < length I.customers) where
  abbrev costs : ℕ → ℕ → Type 0
  costs s cost = lane I s (customer_at I j).id ≡ Some cost

  -- the lane that `next_above` gives is one of the instance, and costs more
  pub next_is_lane : (v : ℕ) (l : ℕ × ℕ) → next_above order j v ≡ Some l → (v < l.0) × costs l.1 l.0
  next_is_lane v l found =
      let first = IsFirst-find (λ m. nat_lt v m.0) (lanes_to order j) l found in
      (ltb-true v l.0 first.passes, ((of.each j within).complete l.0 l.1).0 (first.place, first.within, first.is l))

  -- and each other one that costs more comes after it
  pub next_is_first : (v : ℕ) (l m : ℕ × ℕ) → next_above order j v ≡ Some l → costs m.1 m.0 → v < m.0 → (l ≡ m) ⊎ IsBefore l m
  next_is_first v l m found is above =
      let first = IsFirst-find (λ n. nat_lt v n.0) (lanes_to order j) l found in
      let k : Contains (lanes_to order j) m = ((of.each j within).complete m.0 m.1).1 is in
      elim (cases_order first.place k.0) [
        | inl same ↦ inl (sym (first.is m) ∙ ap (λ n. get_or (lanes_to order j) n m) same ∙ k.2)
        | inr other ↦ elim other [
          | inl before ↦ inr (subst (λ (p : (ℕ × ℕ) × (ℕ × ℕ)). IsBefore p.0 p.1) (λ n. (first.is m n, k.2 n)) ((of.each j within).ascending first.place k.0 m before k.1))
          | inr after ↦
              let low : m.0 ≤ v = ltb-false v m.0 (ap (λ (n : ℕ × ℕ). nat_lt v n.0) (sym k.2) ∙ first.before k.0 m after) in
              absurd (omega (arith, low, above))
        ]
      ]

  -- where it gives none, no lane costs more
  pub none_above : (v cost s : ℕ) → next_above order j v ≡ None → costs s cost → cost ≤ v
  none_above v cost s none is =
      ltb-false v cost (All-contains (λ (l : ℕ × ℕ). nat_lt v l.0 ≡ false) (lanes_to order j) (cost, s) (fail_all (λ l. nat_lt v l.0) (lanes_to order j) none) (((of.each j within).complete cost s).1 is))

  -- lanes by place, as `lanes` gives them
  module _ (lanes : List PlacedLane) (exact : map (named order.sites) lanes ≡ lanes_to order j) (known : All (λ l. l.site < length order.sites) lanes) where
    pub id-of : (i : ℕ) → i < length I.sites → slice_index order.sites i ≡ (site_at I i).id
    id-of i b = ap (λ ids. slice_index ids i) of.same_sites ∙ slice_index-site_ids I i b

    pub site_within : (k : ℕ) (d : PlacedLane) → k < length lanes → (get_or lanes k d).site < length I.sites
    site_within k d b = omega (arith, known k d b, ap length of.same_sites, length-site_ids I)

    -- each is a lane of the instance
    pub placed_is_lane : (k : ℕ) (d : PlacedLane) → k < length lanes → costs (site_at I (get_or lanes k d).site).id (get_or lanes k d).cost
    placed_is_lane k d b =
        let l = get_or lanes k d in
        let in_map : get_or (map (named order.sites) lanes) k (named order.sites l) ≡ named order.sites l = get_or-map (named order.sites) lanes k d (named order.sites l) b in
        let there : Contains (lanes_to order j) (named order.sites l) =
        subst (λ ls. Contains ls (named order.sites l)) exact (k, omega (arith, b, length-map lanes (named order.sites)), in_map) in
        ap (λ s. lane I s (customer_at I j).id) (sym (id-of l.site (site_within k d b))) ∙ ((of.each j within).complete l.cost (slice_index order.sites l.site)).0 there

    -- and each lane of the instance is one of them
    pub lane_is_placed : IsStrictlyIncreasing (site_ids I) → (i cost : ℕ) → i < length I.sites → costs (site_at I i).id cost → Contains lanes (record { cost = cost; site = i })
    lane_is_placed rise i cost inside is =
        let m = subst (λ ls. Contains ls (cost, (site_at I i).id)) (sym exact) (((of.each j within).complete cost (site_at I i).id).1 is) in
        let wanted : PlacedLane = record { cost = cost; site = i } in
        let b : m.0 < length lanes = omega (arith, m.1, length-map lanes (named order.sites)) in
        let l = get_or lanes m.0 wanted in
        let seen : named order.sites l ≡ (cost, (site_at I i).id) = sym (get_or-map (named order.sites) lanes m.0 wanted (cost, (site_at I i).id) b) ∙ m.2 in
        let id : (site_at I l.site).id ≡ (site_at I i).id = sym (id-of l.site (site_within m.0 wanted b)) ∙ ap (λ (p : ℕ × ℕ). p.1) seen in
        let same_place : l.site ≡ i = one_place (λ s. s.id) I.sites _ rise l.site i (site_within m.0 wanted b) inside id in
        let same_cost : l.cost ≡ cost = ap (λ (p : ℕ × ℕ). p.0) seen in
        (m.0, b, λ n. record { cost = same_cost n; site = same_place n })

-- What a plan costs where one cost moves: it pays that cost once, or not at all.
use Rattle.std.proofs.Common.{◌≡◌, ◌≢◌, ℕ, ◌+◌, ◌<◌, suc, refl, ap, sym, subst, ◌∙◌, arith, Bool, true, false, cond, List, [], ◌∷◌, map, get_or, Option, Some}
use Rattle.std.specs.Prelude.{Contains, sum_by, find, option_map, unwrap_or, ◌==◌, ◌&&◌, ◌||◌, AllPairs}
use Rattle.std.specs.List.{list_any}
use Rattle.std.specs.List.Sorted.{IsStrictlyIncreasing}
use Rattle.std.proofs.lemmas.Bool.{ne_eqb, eq-eqb, eqb-true, false≢true, and_from}
use Rattle.std.proofs.lemmas.List.{length-map, get_or-map}
use Rattle.std.proofs.lemmas.List.Folds.{Any-from_list_any}
use Rattle.std.proofs.lemmas.List.Kept.{AllPairs-from_increasing}
use Rattle.std.proofs.lemmas.List.Sums.{sum_by-cons}
use Rattle.location_terms.specs.Instance.{Instance, Site, IsValid, site_at, site_ids, lane, fixed_of}
use Rattle.location_terms.specs.Plan.{Plan, IsPlan, cost_of}
use Rattle.location_terms.proofs.Rising.{place_of}
use Rattle.location_terms.proofs.Places.{fixed_of-site_at}
use Rattle.instance_store.specs.Changes.{with_fixed}
use Rattle.range_scan.specs.Prices.{with_lane_costing}
use Rattle.range_scan.proofs.Alike.{no_site}
use Rattle.range_scan.proofs.FixedPrices.{priced_site, site_id, fixed_costs_differ, own_fixed}
use Rattle.range_scan.proofs.LanePrices.{own_lane, other_lane}

module _ {X : Type 0} (p : X → Bool) where
  -- of the elements at most one passes
  abbrev pub PassesOnce : List X → Type 0
  PassesOnce [] = Unit {0}
  PassesOnce (x ∷ xs) = (p x ≡ true → list_any p xs ≡ false) × PassesOnce xs

  -- so it is where those that pass have one key, and keys rise
  pub once_by_key : (key : X → ℕ) (s : ℕ) → ((x : X) → p x ≡ true → key x ≡ s) → (xs : List X) → AllPairs (λ x y. key x < key y) xs → PassesOnce xs
  once_by_key key s is [] pairs = tt
  once_by_key key s is (x ∷ xs) pairs = (λ here. alone here (list_any p xs) refl, once_by_key key s is xs (λ i j d before b. pairs (suc i) (suc j) d (omega (arith, before)) (omega (arith, b))))
    where
      alone : p x ≡ true → (b : Bool) → list_any p xs ≡ b → b ≡ false
      alone here false e = refl
      alone here true e =
          let any = Any-from_list_any p xs e in
          let less : key x < key (get_or xs any.0 any.1) = pairs 0 (suc any.0) any.1 (omega arith) (omega (arith, any.2)) in
          let same : key (get_or xs any.0 any.1) ≡ s = ap key any.3 ∙ is any.1 any.4 in
          absurd (omega (arith, less, same, is x here))

  -- a sum to which those that pass add a number, and the others what they always do
  module _ (f : ℕ → X → ℕ) (g : X → ℕ) (own : (x : ℕ) (y : X) → p y ≡ true → f x y ≡ x) (others : (x : ℕ) (y : X) → p y ≡ false → f x y ≡ g y) where
    sum_unmoved : (xs : List X) → list_any p xs ≡ false → (x : ℕ) → sum_by (f x) xs ≡ sum_by g xs
    sum_unmoved [] none x = refl
    sum_unmoved (y ∷ ys) none x = by (λ n. sum_unmoved ys n x) (p y) refl
      where
        by : (list_any p ys ≡ false → sum_by (f x) ys ≡ sum_by g ys) → (b : Bool) → p y ≡ b → sum_by (f x) (y ∷ ys) ≡ sum_by g (y ∷ ys)
        by behind true e = absurd (false≢true (sym none ∙ ap (λ t. t || list_any p ys) e))
        by behind false e =
            let rest = behind (sym (ap (λ t. t || list_any p ys) e) ∙ none) in
            omega (arith, sum_by-cons (f x) y ys, sum_by-cons g y ys, others x y e, rest)

    pub sum_moved : (xs : List X) → PassesOnce xs → (x : ℕ) → sum_by (f x) xs ≡ sum_by (f 0) xs + cond (list_any p xs) x 0
    sum_moved [] once x = refl
    sum_moved (y ∷ ys) once x = by (sum_moved ys once.1 x) (p y) refl
      where
        by : sum_by (f x) ys ≡ sum_by (f 0) ys + cond (list_any p ys) x 0 → (b : Bool) → p y ≡ b → sum_by (f x) (y ∷ ys) ≡ sum_by (f 0) (y ∷ ys) + cond (list_any p (y ∷ ys)) x 0
        by behind true e =
            let any : cond (list_any p (y ∷ ys)) x 0 ≡ x = ap (λ t. cond (t || list_any p ys) x 0) e in
            omega (arith, any, sum_by-cons (f x) y ys, sum_by-cons (f 0) y ys, own x y e, own 0 y e, sum_unmoved ys (once.0 e) x, sum_unmoved ys (once.0 e) 0)
        by behind false e =
            let any : cond (list_any p (y ∷ ys)) x 0 ≡ cond (list_any p ys) x 0 = ap (λ t. cond (t || list_any p ys) x 0) e in
            omega (arith, any, sum_by-cons (f x) y ys, sum_by-cons (f 0) y ys, others x y e, others 0 y e, behind)

-- the fixed cost of another site stays
other_site : (s x a : ℕ) → a ≢ s → (ys : List Site) → option_map (λ (y : Site). y.fixed) (find (λ y. y.id == a) (map (λ y. priced_site x (y.id == s) y) ys)) ≡ option_map (λ (y : Site). y.fixed) (find (λ y. y.id == a) ys)
other_site s x a other [] = refl
other_site s x a other (y ∷ ys) =
    ap (λ b. option_map (λ (z : Site). z.fixed) (cond b (Some (priced_site x (y.id == s) y)) (find (λ z. z.id == a) (map (λ z. priced_site x (z.id == s) z) ys)))) (ap (λ n. n == a) (site_id x (y.id == s) y))
    ∙ by (other_site s x a other ys) (y.id == a) refl
  where
    by : option_map (λ (z : Site). z.fixed) (find (λ z. z.id == a) (map (λ z. priced_site x (z.id == s) z) ys)) ≡ option_map (λ (z : Site). z.fixed) (find (λ z. z.id == a) ys)
        → (b : Bool) → (y.id == a) ≡ b
        → option_map (λ (z : Site). z.fixed) (cond (y.id == a) (Some (priced_site x (y.id == s) y)) (find (λ z. z.id == a) (map (λ z. priced_site x (z.id == s) z) ys)))
        ≡ option_map (λ (z : Site). z.fixed) (cond (y.id == a) (Some y) (find (λ z. z.id == a) ys))
    by behind true e =
        let apart : (y.id == s) ≡ false = ne_eqb y.id s (λ same. other (sym (eqb-true y.id a e) ∙ same)) in
        (λ k. option_map (λ (z : Site). z.fixed) (cond (e k) (Some (priced_site x (apart k) y)) (find (λ z. z.id == a) (map (λ z. priced_site x (z.id == s) z) ys))))
        ∙ sym (ap (λ t. option_map (λ (z : Site). z.fixed) (cond t (Some y) (find (λ z. z.id == a) ys))) e)
    by behind false e =
        ap (λ t. option_map (λ (z : Site). z.fixed) (cond t (Some (priced_site x (y.id == s) y)) (find (λ z. z.id == a) (map (λ z. priced_site x (z.id == s) z) ys)))) e
        ∙ behind
        ∙ sym (ap (λ t. option_map (λ (z : Site). z.fixed) (cond t (Some y) (find (λ z. z.id == a) ys))) e)

-- both tests pass
pub both_true : (a b : Bool) → (a && b) ≡ true → (a ≡ true) × (b ≡ true)
both_true true true e = (refl, refl)
both_true true false e = absurd (false≢true e)
both_true false b e = absurd (false≢true e)

-- the customers of a plan rise
pub served_pairs : (P : Plan) → IsPlan P → AllPairs (λ v w. v.0 < w.0) P.serves
served_pairs P plan i j d before b =
    let h = AllPairs-from_increasing (map (λ v. v.0) P.serves) plan.customers_rise i j d.0 before (omega (arith, b, length-map P.serves (λ v. v.0))) in
    omega (arith, h, get_or-map (λ v. v.0) P.serves i d d.0 (omega (arith, before, b)), get_or-map (λ v. v.0) P.serves j d d.0 b)

module _ (I : Instance) (valid : IsValid I) (P : Plan) (plan : IsPlan P) where
  -- whether the plan opens the site
  abbrev pub opens : ℕ → Bool
  opens s = list_any (λ a. a == s) P.sites

  -- whether the plan uses the lane
  abbrev pub uses : ℕ → ℕ → Bool
  uses s c = list_any (λ v. (v.1 == s) && (v.0 == c)) P.serves

  own_site : (s : ℕ) → Contains (site_ids I) s → (x : ℕ) → fixed_of (with_fixed I s x) s ≡ x
  own_site s known x =
      let at = place_of (λ (y : Site). y.id) I.sites no_site s known in
      let h = fixed_costs_differ I s x in
      let here : (site_at (with_fixed I s x) at.0).id ≡ s = h.ids at.0 at.1 ∙ at.2 in
      let rise : IsStrictlyIncreasing (site_ids (with_fixed I s x)) = subst IsStrictlyIncreasing (sym h.names) valid.sites_named.rising in
      ap (fixed_of (with_fixed I s x)) (sym here)
      ∙ fixed_of-site_at (with_fixed I s x) at.0 rise (omega (arith, at.1, h.count))
      ∙ own_fixed I s x at.0 at.1 at.2

  pub fixed_paid : (s : ℕ) → Contains (site_ids I) s → (x : ℕ) → cost_of (with_fixed I s x) P ≡ cost_of (with_fixed I s 0) P + cond (opens s) x 0
  fixed_paid s known x =
      let once = once_by_key (λ a. a == s) (λ a. a) s (λ a e. eqb-true a s e) P.sites (AllPairs-from_increasing P.sites plan.sites_rise) in
      let sites = sum_moved (λ a. a == s) (λ x. fixed_of (with_fixed I s x)) (fixed_of I)
      (λ x a e. ap (fixed_of (with_fixed I s x)) (eqb-true a s e) ∙ own_site s known x)
      (λ x a e. ap (λ (o : Option ℕ). unwrap_or o 0) (other_site s x a (λ same. false≢true (sym e ∙ eq-eqb a s same)) I.sites))
      P.sites once x in
      omega (arith, sites)

  pub lane_paid : (s c x : ℕ) → cost_of (with_lane_costing I s c x) P ≡ cost_of (with_lane_costing I s c 0) P + cond (uses s c) x 0
  lane_paid s c x =
      let p : ℕ × ℕ → Bool = λ v. (v.1 == s) && (v.0 == c) in
      let once = once_by_key p (λ v. v.0) c (λ v e. eqb-true v.0 c (both_true (v.1 == s) (v.0 == c) e).1) P.serves (served_pairs P plan) in
      let lanes = sum_moved p (λ x v. unwrap_or (lane (with_lane_costing I s c x) v.1 v.0) 0) (λ v. unwrap_or (lane I v.1 v.0) 0)
      (λ x v e. (λ k. unwrap_or (lane (with_lane_costing I s c x) (eqb-true v.1 s (both_true (v.1 == s) (v.0 == c) e).0 k) (eqb-true v.0 c (both_true (v.1 == s) (v.0 == c) e).1 k)) 0) ∙ ap (λ (o : Option ℕ). unwrap_or o 0) (own_lane I s c x))
      (λ x v e. ap (λ (o : Option ℕ). unwrap_or o 0) (other_lane I s c x v.1 v.0
      (λ from to. false≢true (sym e ∙ and_from (v.1 == s) (v.0 == c) (eq-eqb v.1 s from) (eq-eqb v.0 c to)))))
      P.serves once x in
      omega (arith, lanes)

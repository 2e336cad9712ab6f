-- The ids of picked places rise, so that tight sites and violating customers are listed in order.
use Rattle.std.proofs.Common.{◌≡◌, ℕ, ◌+◌, ◌<◌, refl, sym, ap, ◌∙◌, arith, Bool, true, false, cond, List, [], ◌∷◌, ◌++◌, map, length, get_or}
use Rattle.std.specs.Prelude.{filter}
use Rattle.std.specs.List.{range_with_len}
use Rattle.std.specs.List.Sorted.{IsStrictlyIncreasing}
use Rattle.std.proofs.lemmas.List.{length-map, get_or-map, map-append, map-id, append-nil}
use Rattle.std.proofs.lemmas.List.Elements.{All-filter}
use Rattle.std.proofs.lemmas.List.FromFn.{get_or-range_with_len, length-range_with_len, filter_of_map_range_with_len_more}
use Rattle.std.proofs.lemmas.List.Kept.{AllPairs-from_increasing, IsStrictlyIncreasing-filter}
use Rattle.location_terms.specs.Instance.{Instance, IsValid, site_ids, customer_ids, site_at, customer_at}
use Rattle.location_terms.specs.Box.{Path}
use Rattle.location_terms.specs.Bound.{Duals}
use Rattle.location_terms.proofs.Places.{length-site_ids, length-customer_ids, slice_index-site_ids, slice_index-customer_ids}
use Rattle.dual_ascent.proofs.Ceiling.{places_below}
use Rattle.dual_adjust.specs.Slackness.{is_tight, tight_sites, is_violating, violations}

pub places_rise : (n : ℕ) → IsStrictlyIncreasing (range_with_len 0 n)
places_rise n k b =
    let inside : k + 1 < n = omega (arith, b, length-range_with_len 0 n) in
    omega (arith, inside, get_or-range_with_len 0 n k 0 (omega arith), get_or-range_with_len 0 n (k + 1) 0 inside)

-- numbers that rise with the places rise where some places are picked
pub picked_rise : (f : ℕ → ℕ) (n : ℕ) → ((i k : ℕ) → i < k → k < n → f i < f k) → (p : ℕ → Bool) → IsStrictlyIncreasing (map f (filter p (range_with_len 0 n)))
picked_rise f n rises p k b =
    let ps : List ℕ = filter p (range_with_len 0 n) in
    let next : k + 1 < length ps = omega (arith, b, length-map ps f) in
    let this : k < length ps = omega (arith, next) in
    let more : get_or ps k 0 < get_or ps (k + 1) 0 = IsStrictlyIncreasing-filter p (range_with_len 0 n) (places_rise n) k next in
    let inside : get_or ps (k + 1) 0 < n = All-filter p (λ i. i < n) (range_with_len 0 n) (places_below n) (k + 1) 0 next in
    let up : f (get_or ps k 0) < f (get_or ps (k + 1) 0) = rises (get_or ps k 0) (get_or ps (k + 1) 0) more inside in
    omega (arith, up, get_or-map f ps k 0 0 this, get_or-map f ps (k + 1) 0 0 next)

module _ (I : Instance) (valid : IsValid I) where
  pub sites_rise : (i k : ℕ) → i < k → k < length I.sites → (site_at I i).id < (site_at I k).id
  sites_rise i k before b =
      let inside : k < length (site_ids I) = omega (arith, b, length-site_ids I) in
      let h : get_or (site_ids I) i 0 < get_or (site_ids I) k 0 = AllPairs-from_increasing (site_ids I) valid.sites_named.rising i k 0 before inside in
      omega (arith, h, slice_index-site_ids I i (omega arith), slice_index-site_ids I k b)

  pub customers_rise : (i k : ℕ) → i < k → k < length I.customers → (customer_at I i).id < (customer_at I k).id
  customers_rise i k before b =
      let inside : k < length (customer_ids I) = omega (arith, b, length-customer_ids I) in
      let h : get_or (customer_ids I) i 0 < get_or (customer_ids I) k 0 = AllPairs-from_increasing (customer_ids I) valid.customers_named.rising i k 0 before inside in
      omega (arith, h, slice_index-customer_ids I i (omega arith), slice_index-customer_ids I k b)

module _ (I : Instance) (path : Path) (d : Duals) (valid : IsValid I) where
  pub tight_sites_rise : IsStrictlyIncreasing (tight_sites I path d)
  tight_sites_rise = picked_rise (λ i. (site_at I i).id) (length I.sites) (sites_rise I valid) (is_tight I path d)

  pub violations_rise : (sites : List ℕ) → IsStrictlyIncreasing (violations I path d sites)
  violations_rise sites = picked_rise (λ j. (customer_at I j).id) (length I.customers) (customers_rise I valid) (is_violating I path d sites)

-- one more place, where it is picked
pub picked_next : (f : ℕ → ℕ) (p : ℕ → Bool) (k : ℕ) → map f (filter p (range_with_len 0 (k + 1))) ≡ map f (filter p (range_with_len 0 k)) ++ cond (p k) (f k ∷ []) []
picked_next f p k =
    let same : (n : ℕ) → map (λ i. i) (range_with_len 0 n) ≡ range_with_len 0 n = λ n. map-id (range_with_len 0 n) in
    let more : filter p (range_with_len 0 (k + 1)) ≡ filter p (range_with_len 0 k) ++ cond (p k) (k ∷ []) [] =
    ap (filter p) (sym (same (k + 1))) ∙ filter_of_map_range_with_len_more p (λ i. i) 0 k k (omega arith) ∙ ap (λ (ys : List ℕ). filter p ys ++ cond (p k) (k ∷ []) []) (same k) in
    ap (map f) more ∙ map-append f (filter p (range_with_len 0 k)) (cond (p k) (k ∷ []) []) ∙ ap (λ (ys : List ℕ). map f (filter p (range_with_len 0 k)) ++ ys) (last f (p k) k)
  where
    last : (f : ℕ → ℕ) (b : Bool) (k : ℕ) → map f (cond b (k ∷ []) []) ≡ cond b (f k ∷ []) []
    last f true k = refl
    last f false k = refl

-- the list of what was picked, with the place's number behind it or without it
pub list_next : (f : ℕ → ℕ) (p : ℕ → Bool) (k : ℕ) (xs : List ℕ) → xs ≡ map f (filter p (range_with_len 0 k)) → p k ≡ true → xs ++ f k ∷ [] ≡ map f (filter p (range_with_len 0 (k + 1)))
list_next f p k xs so_far picked = ap (λ (ys : List ℕ). ys ++ f k ∷ []) so_far ∙ sym (picked_next f p k ∙ ap (λ (b : Bool). map f (filter p (range_with_len 0 k)) ++ cond b (f k ∷ []) []) picked)

pub list_same : (f : ℕ → ℕ) (p : ℕ → Bool) (k : ℕ) (xs : List ℕ) → xs ≡ map f (filter p (range_with_len 0 k)) → p k ≡ false → xs ≡ map f (filter p (range_with_len 0 (k + 1)))
list_same f p k xs so_far passed = so_far ∙ sym (picked_next f p k ∙ ap (λ (b : Bool). map f (filter p (range_with_len 0 k)) ++ cond b (f k ∷ []) []) passed ∙ append-nil (map f (filter p (range_with_len 0 k))))

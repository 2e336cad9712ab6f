-- The customers whom a feasible plan serves from a site are one of the sets that the site may serve, so what they pay is within the best set.
use Rattle.std.proofs.Common.{◌≡◌, ℕ, ◌*◌, ◌+◌, ◌<◌, zero, suc, refl, sym, ap, ◌∙◌, arith, add-one, Bool, true, false, cond, List, [], ◌∷◌, ◌++◌, length, map, get_or, ℤ, pos, ◌+ℤ◌, ◌≤ℤ◌}
use Rattle.std.specs.Prelude.{All, Contains, filter, fold}
use Rattle.std.specs.Int.{int_max}
use Rattle.std.specs.List.{range_with_len}
use Rattle.std.proofs.lemmas.Int.{ints, clamps}
use Rattle.std.proofs.lemmas.Bool.{false≢true}
use Rattle.std.proofs.lemmas.List.{map-id, length-map, get_or-map}
use Rattle.std.proofs.lemmas.List.Elements.{Contains-append_left, Contains-append_right}
use Rattle.std.proofs.lemmas.List.FromFn.{length-range_with_len, get_or-range_with_len, filter_of_map_range_with_len_more}
use Rattle.location_terms.specs.Instance.{Instance, site_at, customer_at}
use Rattle.location_terms.specs.Plan.{Plan, load_of}
use Rattle.location_terms.specs.Box.{Path, is_allowed, holds_demand}
use Rattle.location_terms.specs.Bound.{Duals, total}
use Rattle.location_terms.specs.Knapsack.{sets_of, servable, demand_of_set, surplus_at, worth_of, best_set}
use Rattle.location_terms.proofs.Totals.{total_same}
use Rattle.location_terms.proofs.Listed.{total-filter}
use Rattle.location_terms.proofs.Served.{is_served_from, load_at}

-- one element more, of those that may be in a set and of those that are
set_with : (j : ℕ) (ps qs : List ℕ) (may is : Bool) → (is ≡ true → may ≡ true) → Contains (sets_of ps) qs → Contains (sets_of (cond may (j ∷ ps) ps)) (cond is (j ∷ qs) qs)
set_with j ps qs true true h c =
    let sets : List (List ℕ) = sets_of ps in
    let with_j : Contains (map (λ set. j ∷ set) sets) (j ∷ qs) = (c.0, omega (arith, c.1, length-map sets (λ set. j ∷ set)), get_or-map (λ set. j ∷ set) sets c.0 _ _ c.1 ∙ ap (λ set. j ∷ set) c.2) in
    Contains-append_right sets (map (λ set. j ∷ set) sets) (j ∷ qs) with_j
set_with j ps qs true false h c = Contains-append_left (sets_of ps) (map (λ set. j ∷ set) (sets_of ps)) qs c
set_with j ps qs false true h c = absurd (false≢true (h refl))
set_with j ps qs false false h c = c

-- the elements that pass a test are one of the sets of those that pass a weaker one
pub in_sets : (may is : ℕ → Bool) (js : List ℕ) → All (λ j. is j ≡ true → may j ≡ true) js → Contains (sets_of (filter may js)) (filter is js)
in_sets may is [] h = (0, omega arith, refl)
in_sets may is (j ∷ js) h =
    set_with j (filter may js) (filter is js) (may j) (is j) (h 0 j (omega arith)) (in_sets may is js (λ k d b. h (suc k) d (omega arith)))

module _ {X : Type 0} (f : X → ℤ) where
  -- the greatest value over a list, or where it starts
  abbrev pub greatest_of : ℤ → List X → ℤ
  greatest_of a xs = fold (λ best x. int_max best (f x)) a xs

  -- it is at least where it starts
  pub at_least_start : (a : ℤ) (xs : List X) → a ≤ℤ greatest_of a xs
  at_least_start a [] = omega (arith, ints)
  at_least_start a (x ∷ xs) = omega (arith, ints, clamps, at_least_start (int_max a (f x)) xs)

  greatest_step : (a : ℤ) (x y : X) (xs : List X) (b : Bool) → (x ≡ y → b ≡ true) → x ≡ y → f y ≤ℤ greatest_of a (cond b (x ∷ xs) xs)
  greatest_step a x y xs true passes e = omega (arith, ints, clamps, at_least_start (int_max a (f x)) xs, ap f e)
  greatest_step a x y xs false passes e = absurd (false≢true (passes e))

  later_step : (a : ℤ) (x y : X) (xs : List X) (b : Bool) → ((c : ℤ) → f y ≤ℤ greatest_of c xs) → f y ≤ℤ greatest_of a (cond b (x ∷ xs) xs)
  later_step a x y xs true later = later (int_max a (f x))
  later_step a x y xs false later = later a

  -- and at least the value of each element that passes
  pub at_least_each : (p : X → Bool) (a : ℤ) (xs : List X) (k : ℕ) (y : X) → k < length xs → get_or xs k y ≡ y → p y ≡ true → f y ≤ℤ greatest_of a (filter p xs)
  at_least_each p a [] k y b here passes = absurd (omega arith)
  at_least_each p a (x ∷ xs) zero y b here passes = greatest_step a x y (filter p xs) (p x) (λ e. ap p e ∙ passes) here
  at_least_each p a (x ∷ xs) (suc k) y b here passes = later_step a x y (filter p xs) (p x) (λ c. at_least_each p c xs k y (omega arith) here passes)

-- the places that pass a test, and one place more
places_more : (p : ℕ → Bool) (n : ℕ) → filter p (range_with_len 0 (suc n)) ≡ filter p (range_with_len 0 n) ++ cond (p n) (n ∷ []) []
places_more p n = rw (map-id (range_with_len 0 n), map-id (range_with_len 0 (n + 1)), add-one) at (filter_of_map_range_with_len_more p (λ j. j) 0 n n (omega arith))

-- the k-th place is k
place_is : (n k d : ℕ) → k < n → get_or (range_with_len 0 n) k d ≡ k
place_is n k d b = omega (arith, get_or-range_with_len 0 n k d b)

module _ (I : Instance) (path : Path) (d : Duals) (P : Plan) (i : ℕ) where
  -- the customers, by place, whom the plan serves from the site
  abbrev pub customers_served : List ℕ
  customers_served = filter (is_served_from I P i) (range_with_len 0 (length I.customers))

  worth_with_last : (set : List ℕ) (j : ℕ) (b : Bool) → worth_of I d i (set ++ cond b (j ∷ []) []) ≡ worth_of I d i set +ℤ cond b (surplus_at I d i j) (pos 0)
  worth_with_last [] j true = omega (arith, ints)
  worth_with_last [] j false = omega (arith, ints)
  worth_with_last (k ∷ set) j b = omega (arith, ints, worth_with_last set j b)

  -- what customers pay, by places, is the worth of the set of them
  worth_by_places : (p : ℕ → Bool) (n : ℕ) → total (λ j. cond (p j) (surplus_at I d i j) (pos 0)) n ≡ worth_of I d i (filter p (range_with_len 0 n))
  unfolding total
  worth_by_places p zero = refl
  worth_by_places p (suc n) =
      omega (arith, ints, worth_by_places p n, ap (worth_of I d i) (places_more p n), worth_with_last (filter p (range_with_len 0 n)) n (p n))

  -- what customers demand, by places, is the demand of the set of them
  demand_by_places : (p : ℕ → Bool) (n : ℕ) → total (λ j. cond (p j) (pos (1 * (customer_at I j).demand)) (pos 0)) n ≡ pos (1 * demand_of_set I (filter p (range_with_len 0 n)))
  demand_by_places p n =
      let places : List ℕ = range_with_len 0 n in
      let demand : ℕ → ℤ = λ j. cond (p j) (pos (1 * (customer_at I j).demand)) (pos 0) in
      let same : total demand n ≡ total (λ k. demand (get_or places k 0)) n = total_same demand (λ k. demand (get_or places k 0)) n (λ k b. ap demand (sym (place_is n k 0 b))) in
      same ∙ ap (total (λ k. demand (get_or places k 0))) (sym (length-range_with_len 0 n)) ∙ total-filter 1 (λ j. (customer_at I j).demand) places 0 p

  -- what the plan collects at the site is within the best set of the site, where it holds what it serves
  pub collected :
      ((j : ℕ) → j < length I.customers → is_served_from I P i j ≡ true → is_allowed I path (site_at I i) (customer_at I j) ≡ true)
      → total (load_at I P 1 i) (length I.customers) ≡ pos (1 * load_of I P (site_at I i).id)
      → holds_demand (site_at I i).cap (load_of I P (site_at I i).id) ≡ true
      → total (λ j. cond (is_served_from I P i j) (surplus_at I d i j) (pos 0)) (length I.customers) ≤ℤ best_set I path d i
  unfolding best_set
  collected allowed loaded holds =
      let n : ℕ = length I.customers in
      let served : ℕ → Bool = is_served_from I P i in
      let here : Contains (sets_of (servable I path i)) customers_served =
      in_sets (λ j. is_allowed I path (site_at I i) (customer_at I j)) served (range_with_len 0 n)
      (λ k d b. let is : get_or (range_with_len 0 n) k d ≡ k = place_is n k d (omega (arith, b, length-range_with_len 0 n)) in
      rw is (allowed k (omega (arith, b, length-range_with_len 0 n)))) in
      let load : demand_of_set I customers_served ≡ load_of I P (site_at I i).id = omega (arith, ints, demand_by_places served n, loaded) in
      let fits : holds_demand (site_at I i).cap (demand_of_set I customers_served) ≡ true = rw load holds in
      omega (
        arith,
        ints,
        worth_by_places served n,
        at_least_each (worth_of I d i) (λ set. holds_demand (site_at I i).cap (demand_of_set I set)) (pos 0) (sets_of (servable I path i)) here.0 customers_served here.1 here.2 fits,
      )

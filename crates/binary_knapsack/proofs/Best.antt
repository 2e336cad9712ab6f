-- The greatest worth of a set that fits, from what bounds the sets and what they bound.
use Rattle.std.proofs.Common.{◌≡◌, ℕ, refl, sym, ◌∙◌, arith, Bool, true, false, cond, Option, List, [], ◌∷◌, ℤ, pos, ◌≤ℤ◌}
use Rattle.std.specs.Prelude.{filter, fold, All}
use Rattle.std.specs.Int.{int_max}
use Rattle.std.proofs.lemmas.Int.{ints, clamps}
use Rattle.std.proofs.lemmas.Bool.{false≢true}
use Rattle.std.proofs.lemmas.List.Elements.{All-nil, All-cons, All-head, All-tail, All-filter, filter_passes}
use Rattle.location_terms.specs.Box.{holds_demand}
use Rattle.binary_knapsack.specs.Knapsack.{item_sets, weight_of, worth_of_items, best_worth}
use Rattle.binary_knapsack.specs.Loads.{Item, most_in, kept}
use Rattle.binary_knapsack.proofs.Sets.{IsAtMost, sets_at_most, loads_at_most}

module _ {X : Type 0} (f : X → ℤ) where
  abbrev pub greatest_of : ℤ → List X → ℤ
  greatest_of a xs = fold (λ best x. int_max best (f x)) a xs

  -- the greatest is at least where it starts
  at_least_start : (a : ℤ) (xs : List X) → a ≤ℤ greatest_of a xs
  at_least_start a [] = omega (arith, ints)
  at_least_start a (x ∷ xs) = omega (arith, ints, clamps, at_least_start (int_max a (f x)) xs)

  -- and at most what bounds that and all elements
  pub at_most_bound : (z a : ℤ) (xs : List X) → a ≤ℤ z → All (λ x. f x ≤ℤ z) xs → greatest_of a xs ≤ℤ z
  at_most_bound z a [] start all = start
  at_most_bound z a (x ∷ xs) start all =
      let here = All-head (λ y. f y ≤ℤ z) x xs all in
      at_most_bound z (int_max a (f x)) xs (omega (arith, ints, clamps, start, here)) (All-tail (λ y. f y ≤ℤ z) x xs all)

  module _ (p : X → Bool) where
    -- one element more
    bounds_step : (a : ℤ) (x : X) (xs : List X) (b : Bool) → p x ≡ b
        → ((c : ℤ) → All (λ y. p y ≡ true → f y ≤ℤ greatest_of c (filter p xs)) xs)
        → All (λ y. p y ≡ true → f y ≤ℤ greatest_of a (cond b (x ∷ filter p xs) (filter p xs))) (x ∷ xs)
    bounds_step a x xs true e below =
        let start = at_least_start (int_max a (f x)) (filter p xs) in
        All-cons (λ y. p y ≡ true → f y ≤ℤ greatest_of (int_max a (f x)) (filter p xs)) x xs (λ h. omega (arith, ints, clamps, start)) (below (int_max a (f x)))
    bounds_step a x xs false e below =
        All-cons (λ y. p y ≡ true → f y ≤ℤ greatest_of a (filter p xs)) x xs (λ h. absurd (false≢true (sym e ∙ h))) (below a)

    -- each element that passes is at most the greatest
    pub bounds_all : (xs : List X) (a : ℤ) → All (λ y. p y ≡ true → f y ≤ℤ greatest_of a (filter p xs)) xs
    bounds_all [] a = All-nil (λ y. p y ≡ true → f y ≤ℤ greatest_of a [])
    bounds_all (x ∷ xs) a = bounds_step a x xs (p x) refl (λ c. bounds_all xs c)

-- the greatest worth of a set that fits is that of the loads within the capacity
pub best_worth_of_loads : (cap : Option ℕ) (items : List Item) → best_worth cap items ≡ pos (most_in cap (kept cap items))
unfolding best_worth
best_worth_of_loads cap items =
    let fits : List Item → Bool = λ set. holds_demand cap (weight_of set) in
    let most = pos (most_in cap (kept cap items)) in
    let sets = sets_at_most cap items cap (λ w h. h) in
    let passed = filter_passes fits (item_sets items) in
    let each = All-filter fits (IsAtMost cap (pos 0) most) (item_sets items) sets in
    let all : All (λ set. worth_of_items set ≤ℤ most) (filter fits (item_sets items)) = λ k d h. (let w = each k d h (passed k d h) in omega (arith, ints, w)) in
    let above : greatest_of worth_of_items (pos 0) (filter fits (item_sets items)) ≤ℤ most = at_most_bound worth_of_items most (pos 0) (filter fits (item_sets items)) (omega (arith, ints)) all in
    let best = greatest_of worth_of_items (pos 0) (filter fits (item_sets items)) in
    let bounds = bounds_all worth_of_items fits (item_sets items) (pos 0) in
    let within : All (IsAtMost cap (pos 0) best) (item_sets items) = λ k d h e. (let w = bounds k d h e in omega (arith, ints, w)) in
    let below = loads_at_most cap items cap (pos 0) best within in
    omega (arith, ints, above, below)

-- the empty set fits
pub best_is_some : (cap : Option ℕ) (items : List Item) → pos 0 ≤ℤ best_worth cap items
best_is_some cap items = (let is = best_worth_of_loads cap items in omega (arith, ints, is))

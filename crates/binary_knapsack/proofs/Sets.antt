-- The greatest worth of a set that fits is that of the loads.
use Rattle.std.proofs.Common.{◌≡◌, ℕ, ◌+◌, ◌≤◌, inl, inr, refl, arith, true, false, Option, None, Some, List, [], ◌∷◌, ◌++◌, map, ℤ, pos, ◌≤ℤ◌, ◌+ℤ◌}
use Rattle.std.specs.Prelude.{All, Contains}
use Rattle.std.proofs.lemmas.Int.{ints}
use Rattle.std.proofs.lemmas.List.{length-map, get_or-map}
use Rattle.std.proofs.lemmas.List.Sums.{sum_by-cons}
use Rattle.std.proofs.lemmas.List.Elements.{All-nil, All-cons, All-head, All-weaker, All-append, All-map, All-contains, All-contains_itself, Contains-append_left, Contains-append_right}
use Rattle.location_terms.specs.Box.{holds_demand}
use Rattle.binary_knapsack.specs.Knapsack.{item_sets, weight_of, worth_of_items}
use Rattle.binary_knapsack.specs.Loads.{Item, most_in, may_pay, as_load, kept}
use Rattle.binary_knapsack.proofs.Most.{most_of_none}
use Rattle.binary_knapsack.proofs.Kept.{left_of, IsWithin, left_within, first_fits, second_fits, rest_fits, both_fit, nothing_fits, most_in_skips, most_in_takes, most_in_cases, load_of_paying, load_of_idle, paying_worth, idle_worth, bool_cases}

-- what a set that fits is worth at most
abbrev pub IsAtMost : Option ℕ → ℤ → ℤ → List Item → Type 0
IsAtMost cap added most set = holds_demand cap (weight_of set) ≡ true → (added +ℤ worth_of_items set) ≤ℤ most

weight_cons : (x : Item) (set : List Item) → weight_of (x ∷ set) ≡ x.weight + weight_of set
weight_cons x set = sum_by-cons (λ (y : Item). y.weight) x set

-- an item's loads before others take nothing away
kept_skips : (cap part : Option ℕ) (x : Item) (xs : List Item) → most_in part (kept cap xs) ≤ most_in part (kept cap (x ∷ xs))
kept_skips cap part x xs = elim (bool_cases (may_pay cap x)) [
  | inl pays ↦ rw (load_of_paying cap x pays) (most_in_skips part (as_load x) (kept cap xs))
  | inr idle ↦ rw (load_of_idle cap x idle) (omega arith)
]

-- the sets with the item, where it may pay
with_paying : (cap part : Option ℕ) (x : Item) (xs set : List Item) → may_pay cap x ≡ true
    → IsAtMost (left_of part x.weight) (pos 0) (pos (most_in (left_of part x.weight) (kept cap xs))) set
    → IsAtMost part (pos 0) (pos (most_in part (kept cap (x ∷ xs)))) (x ∷ set)
with_paying cap part x xs set pays rest h =
    let fits : holds_demand part (x.weight + weight_of set) ≡ true = rw weight_cons at h in
    let below = rest (rest_fits part x.weight (weight_of set) fits) in
    let more = most_in_takes part (as_load x) (kept cap xs) (first_fits part x.weight (weight_of set) fits) in
    let worth = paying_worth cap x pays in
    rw (load_of_paying cap x pays) (omega (arith, ints, below, more, worth))

-- the sets with the item, where it may not
with_idle : (cap part : Option ℕ) (x : Item) (xs set : List Item) → IsWithin part cap → may_pay cap x ≡ false
    → IsAtMost part (pos 0) (pos (most_in part (kept cap xs))) set
    → IsAtMost part (pos 0) (pos (most_in part (kept cap (x ∷ xs)))) (x ∷ set)
with_idle cap part x xs set within idle rest h =
    let fits : holds_demand part (x.weight + weight_of set) ≡ true = rw weight_cons at h in
    let below = rest (second_fits part x.weight (weight_of set) fits) in
    let nothing = idle_worth cap x idle (within x.weight (first_fits part x.weight (weight_of set) fits)) in
    rw (load_of_idle cap x idle) (omega (arith, ints, below, nothing))

-- no set that fits is worth more than the loads
pub sets_at_most : (cap : Option ℕ) (items : List Item) (part : Option ℕ) → IsWithin part cap → All (IsAtMost part (pos 0) (pos (most_in part (kept cap items)))) (item_sets items)
sets_at_most cap [] part within = All-cons (IsAtMost part (pos 0) (pos (most_in part []))) [] [] (λ h. omega (arith, ints)) (All-nil (IsAtMost part (pos 0) (pos (most_in part []))))
sets_at_most cap (x ∷ xs) part within =
    let P = IsAtMost part (pos 0) (pos (most_in part (kept cap (x ∷ xs)))) in
    let Q = IsAtMost part (pos 0) (pos (most_in part (kept cap xs))) in
    let R = IsAtMost (left_of part x.weight) (pos 0) (pos (most_in (left_of part x.weight) (kept cap xs))) in
    let without : All Q (item_sets xs) = sets_at_most cap xs part within in
    let behind : All R (item_sets xs) = sets_at_most cap xs (left_of part x.weight) (left_within part cap x.weight within) in
    let more = kept_skips cap part x xs in
    let left : All P (item_sets xs) = All-weaker Q P (λ set h fits. omega (arith, ints, h fits, more)) (item_sets xs) without in
    let with_x : All (λ set. P (x ∷ set)) (item_sets xs) = elim (bool_cases (may_pay cap x)) [
      | inl pays ↦ All-weaker R (λ set. P (x ∷ set)) (λ set h. with_paying cap part x xs set pays h) (item_sets xs) behind
      | inr idle ↦ All-weaker Q (λ set. P (x ∷ set)) (λ set h. with_idle cap part x xs set within idle h) (item_sets xs) without
    ] in
    All-append P (item_sets xs) (map (λ set. x ∷ set) (item_sets xs)) left (All-map P (λ set. x ∷ set) (item_sets xs) with_x)

-- what holds of all sets holds of those without the first item, and of those with it
pub of_first : {X : Type 0} (P : X → Type 0) (xs ys : List X) → All P (xs ++ ys) → All P xs
of_first P xs ys all = All-weaker (Contains xs) P (λ x c. All-contains P (xs ++ ys) x all (Contains-append_left xs ys x c)) xs (All-contains_itself xs)

pub of_second : {X : Type 0} (P : X → Type 0) (xs ys : List X) → All P (xs ++ ys) → All P ys
of_second P xs ys all = All-weaker (Contains ys) P (λ x c. All-contains P (xs ++ ys) x all (Contains-append_right xs ys x c)) ys (All-contains_itself ys)

pub of_mapped : {X : Type 0} (P : X → Type 0) (f : X → X) (xs : List X) → All P (map f xs) → All (λ x. P (f x)) xs
of_mapped P f xs all k d h =
    let long = length-map xs f in
    rw (get_or-map f xs k d (f d) h) at (all k (f d) (omega arith))

-- with a paying item that is taken
paying_at_most : (cap part : Option ℕ) (x : Item) (xs : List Item) (added most : ℤ) → may_pay cap x ≡ true → holds_demand part x.weight ≡ true
    → (set : List Item) → IsAtMost part added most (x ∷ set) → IsAtMost (left_of part x.weight) (added +ℤ x.worth) most set
paying_at_most cap part x xs added most pays fits set bound h =
    let whole : holds_demand part (weight_of (x ∷ set)) ≡ true = rw weight_cons (both_fit part x.weight (weight_of set) fits h) in
    let below = bound whole in
    omega (arith, ints, below)

none_in : (cap : Option ℕ) → most_in cap [] ≡ 0
none_in None = refl
none_in (Some c) = most_of_none c

-- a bound on the worth of the sets that fit is one on that of the loads
pub loads_at_most : (cap : Option ℕ) (items : List Item) (part : Option ℕ) (added most : ℤ) → All (IsAtMost part added most) (item_sets items) → (added +ℤ pos (most_in part (kept cap items))) ≤ℤ most
loads_at_most cap [] part added most all =
    let none = All-head (IsAtMost part added most) [] [] all (nothing_fits part) in
    omega (arith, ints, none, none_in part)
loads_at_most cap (x ∷ xs) part added most all =
    let P = IsAtMost part added most in
    let without = of_first P (item_sets xs) (map (λ set. x ∷ set) (item_sets xs)) all in
    let with_x = of_mapped P (λ set. x ∷ set) (item_sets xs) (of_second P (item_sets xs) (map (λ set. x ∷ set) (item_sets xs)) all) in
    let left_out = loads_at_most cap xs part added most without in
    elim (bool_cases (may_pay cap x)) [
      | inl pays ↦ elim (most_in_cases part (as_load x) (kept cap xs)) [
        | inl same ↦ rw (load_of_paying cap x pays) (omega (arith, ints, same, left_out))
        | inr taken ↦
            let Q = IsAtMost (left_of part x.weight) (added +ℤ x.worth) most in
            let behind : All Q (item_sets xs) = All-weaker (λ set. P (x ∷ set)) Q (λ set bound. paying_at_most cap part x xs added most pays taken.0 set bound) (item_sets xs) with_x in
            let below = loads_at_most cap xs (left_of part x.weight) (added +ℤ x.worth) most behind in
            let is = taken.1 in
            let worth = paying_worth cap x pays in
            rw (load_of_paying cap x pays) (omega (arith, ints, is, below, worth))
      ]
      | inr idle ↦ rw (load_of_idle cap x idle) left_out
    ]

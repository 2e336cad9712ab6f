-- The 0-1 knapsack: what a set of whole items within a capacity is worth at most.
use Rattle.std.specs.Prelude.{ℕ, List, [], ◌∷◌, ◌++◌, map, filter, fold, sum_by, Option, ℤ, pos, ◌+ℤ◌}
use Rattle.std.specs.Int.{int_max}
use Rattle.location_terms.specs.Box.{holds_demand}
use Rattle.binary_knapsack.specs.declared.item.Item.{Item}

-- the sets of the items of a list: without the first of them or with it
abbrev pub item_sets : List Item → List (List Item)
item_sets [] = [] ∷ []
item_sets (x ∷ xs) = item_sets xs ++ map (λ set. x ∷ set) (item_sets xs)

-- what the items of a set weigh together
abbrev pub weight_of : List Item → ℕ
weight_of set = sum_by (λ x. x.weight) set

-- what the items of a set are worth together
abbrev pub worth_of_items : List Item → ℤ
worth_of_items [] = pos 0
worth_of_items (x ∷ set) = x.worth +ℤ worth_of_items set

-- the sets whose weights together are within the capacity, or all where there is none
abbrev pub item_sets_within : Option ℕ → List Item → List (List Item)
item_sets_within cap items = filter (λ set. holds_demand cap (weight_of set)) (item_sets items)

-- the greatest worth of a set that fits; the empty set fits, so it is at least 0
unfoldable pub best_worth : Option ℕ → List Item → ℤ
best_worth cap items = fold (λ best set. int_max best (worth_of_items set)) (pos 0) (item_sets_within cap items)

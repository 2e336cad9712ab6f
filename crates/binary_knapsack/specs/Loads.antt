-- Loads, the items that may pay, and choices among the first of them.
use Rattle.std.specs.Prelude.{◌+◌, ◌-◌, ℕ, Bool, ◌&&◌, nat_le, int_lt, List, [], ◌∷◌, max, flat_map, sum_by, Option, None, Some, pos, if◌then◌else◌}
use Rattle.std.specs.Int.RustNames.{unsigned_abs}
use Rattle.location_terms.specs.Box.{holds_demand}
pub use Rattle.binary_knapsack.specs.declared.item.Item.{Item}
pub use Rattle.binary_knapsack.specs.declared.item.Load.{Load}
pub use Rattle.binary_knapsack.specs.declared.item.Choice.{Choice}

-- the item may pay: its worth is above 0, and it fits alone
abbrev pub may_pay : Option ℕ → Item → Bool
may_pay cap x = int_lt (pos 0) x.worth && holds_demand cap x.weight

-- the item as a load
abbrev pub as_load : Item → Load
as_load x = record { weight = x.weight; worth = unsigned_abs x.worth }

-- the item as a load, where it may pay
abbrev pub load_in : Option ℕ → Item → List Load
load_in cap x = if may_pay cap x then as_load x ∷ [] else []

-- the loads of a list of items
abbrev pub kept : Option ℕ → List Item → List Load
kept cap items = flat_map (load_in cap) items

-- the greatest worth of loads that weigh at most so much together
unfoldable pub most : ℕ → List Load → ℕ
most room [] = 0
most room (x ∷ xs) = if nat_le x.weight room then max (most room xs) (x.worth + most (room - x.weight) xs) else most room xs

-- the greatest worth of loads within a capacity, or of all where there is none
abbrev pub most_in : Option ℕ → List Load → ℕ
most_in None loads = sum_by (λ x. x.worth) loads
most_in (Some cap) loads = most cap loads

-- the greatest worth that the choice comes to with loads still to come
abbrev pub worth_with : List Load → Choice → ℕ
worth_with rest choice = choice.worth + most choice.room rest

-- the greatest worth that one of the choices comes to with loads still to come
unfoldable pub reach : List Load → List Choice → ℕ
reach rest [] = 0
reach rest (choice ∷ choices) = max (worth_with rest choice) (reach rest choices)

-- the choice with the load, where that fits
abbrev pub taking_load : Load → Choice → Option Choice
taking_load load choice = if nat_le load.weight choice.room then Some (record { room = choice.room - load.weight; worth = choice.worth + load.worth }) else None

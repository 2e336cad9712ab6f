-- For private functions alone: no public contract cites this page.
-- What loads still to come can add, if they could be taken in part.
use Rattle.std.specs.Prelude.{◌≤◌, ◌+◌, ◌-◌, ◌*◌, ℕ, List}
use Rattle.binary_knapsack.specs.declared.item.Load.{Load}
use Rattle.binary_knapsack.specs.declared.limit.Limit.{Limit}
use Rattle.binary_knapsack.specs.declared.limit.TheConstants.{PARTS}
use Rattle.binary_knapsack.specs.Loads.{most}

-- what the load is worth above the price of its weight, in parts
abbrev pub excess : ℕ → Load → ℕ
excess price load = PARTS * load.worth - price * load.weight

-- no room holds loads of more worth than its price and the gain together
pub record IsBound (limit : Limit) (rest : List Load) : Type 0 where
  pub within : (room : ℕ) → PARTS * most room rest ≤ limit.gain + limit.price * room

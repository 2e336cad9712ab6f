-- For private functions alone: no public contract cites this page.
-- What a site may collect from whole customers, as a knapsack.
use Rattle.std.specs.Prelude.{ℕ, List, map}
use Rattle.location_terms.specs.Instance.{Instance, customer_at}
use Rattle.location_terms.specs.Box.{Path}
use Rattle.location_terms.specs.Bound.{Duals}
use Rattle.location_terms.specs.Knapsack.{servable, surplus_at}
use Rattle.binary_knapsack.specs.declared.item.Item.{Item}

-- the customer at a place as an item: it weighs its demand, and is worth what its dual pays above the cost of the lane
abbrev pub item_at : Instance → Duals → ℕ → ℕ → Item
item_at I d i j = record { weight = (customer_at I j).demand; worth = surplus_at I d i j }

-- the customers whom the box lets the site serve, as items
abbrev pub items_of : Instance → Path → Duals → ℕ → List Item
items_of I path d i = map (item_at I d i) (servable I path i)

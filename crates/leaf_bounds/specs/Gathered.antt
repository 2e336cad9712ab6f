-- For private functions alone: no public contract cites this page.
-- The customers of a site as they are gathered one by one.
use Rattle.std.specs.Prelude.{ℕ, List, [], ◌∷◌, ℤ, if◌then◌else◌}
use Rattle.location_terms.specs.Instance.{Instance, site_at, customer_at}
use Rattle.location_terms.specs.Box.{Path, is_allowed}
use Rattle.binary_knapsack.specs.declared.item.Item.{Item}

-- the customer at a place as an item of this worth, where the box lets the site serve it
abbrev pub item_where_allowed : Instance → Path → ℕ → ℕ → ℤ → List Item
item_where_allowed I path i j worth = if is_allowed I path (site_at I i) (customer_at I j) then record { weight = (customer_at I j).demand; worth = worth } ∷ [] else []

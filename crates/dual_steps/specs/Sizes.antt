-- How many sites and customers steps are taken with.
use Rattle.std.specs.Prelude.{◌≡◌, ℕ, length}
use Rattle.location_terms.specs.Instance.{Instance}
use Rattle.lane_order.specs.Order.{Order}

pub record Sizes : Type 0 where
  pub sites : ℕ
  pub customers : ℕ

abbrev pub sizes_of : Instance → Sizes
sizes_of I = record { sites = length I.sites; customers = length I.customers }

-- the order is of the lanes of so many sites to so many customers
pub record Suits (sizes : Sizes) (order : Order) : Type 0 where
  pub sites : length order.sites ≡ sizes.sites
  pub customers : length order.lanes ≡ sizes.customers

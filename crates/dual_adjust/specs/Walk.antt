-- For private functions alone: no public contract cites this page.
-- The lanes over which a walk goes.
use Rattle.std.specs.Prelude.{◌≡◌, ℕ, ◌<◌, List, length, map, All}
use Rattle.std.specs.List.Sorted.{IsNonDecreasingBy}
use Rattle.location_terms.specs.Instance.{Instance, IsValid}
use Rattle.lane_order.specs.declared.order.PlacedLane.{PlacedLane}
use Rattle.lane_order.specs.Order.{Order, IsOrderOf, lanes_to}
use Rattle.lane_order.specs.Placed.{named}

-- a customer's lanes in the order of a valid instance
pub record IsLaneWalk (I : Instance) (order : Order) (j : ℕ) (lanes : List PlacedLane) : Type 0 where
  pub valid : IsValid I
  pub order_of : IsOrderOf order I
  pub within : j < length I.customers
  pub exact : map (named order.sites) lanes ≡ lanes_to order j
  pub known : All (λ l. l.site < length order.sites) lanes
  pub rising : IsNonDecreasingBy (λ l. l.cost) lanes

-- The lanes of an instance in order, with room for the slacks of its sites.
use Rattle.std.specs.Prelude.{◌≡◌, length}
use Rattle.location_terms.specs.Instance.{Instance}
use Rattle.lane_order.specs.Order.{Order, IsOrderOf}
use Rattle.dual_value.specs.declared.box_bounds.SortedBy.{SortedBy}
use Rattle.dual_value.specs.declared.box_bounds.SortedBy.TheVariants.{Given, Made}
use Rattle.dual_value.specs.declared.box_bounds.SortedLanes.{SortedLanes}

-- the order, that was handed in or made
abbrev pub order_in : SortedBy → Order
order_in (Given order) = order.now
order_in (Made order) = order

pub record AreSortedFor (I : Instance) (s : SortedLanes) : Type 0 where
  pub order : IsOrderOf (order_in s.order) I
  pub room : length s.slacks.items ≡ length I.sites

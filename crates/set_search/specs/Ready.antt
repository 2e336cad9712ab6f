-- What a search among sets of sites begins with.
use Rattle.std.specs.Prelude.{◌≡◌}
use Rattle.lane_order.specs.Order.{IsOrderOf}
use Rattle.dual_steps.specs.Sizes.{Sizes, sizes_of}
use Rattle.set_search.specs.declared.ordered.Ordered.{Ordered}

-- the order is that of the instance's lanes, and the transportation problems are of its sites and customers
pub record IsReady (at : Ordered) (rooms : Sizes) : Type 0 where
  pub order : IsOrderOf at.order.now at.inst.now
  pub sizes : rooms ≡ sizes_of at.inst.now

-- What a strategy may take for granted of a leaf at work.
use Rattle.lane_order.specs.Order.{IsOrderOf}
use Rattle.plan_search.specs.InBox.{IsPathOf}
use Rattle.strategy_port.specs.declared.scene.Scene.{Scene}

-- the lanes by cost are those of the box's instance, and the path names its sites and customers alone
pub record IsScene (s : Scene) : Type 0 where
  pub order : IsOrderOf s.order.now s.boxed.now.instance
  pub path : IsPathOf s.boxed.now.instance s.boxed.now.path

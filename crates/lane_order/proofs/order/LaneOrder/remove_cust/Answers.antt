use Rattle.std.proofs.Common.{sym, subst, List, map}
use Rattle.lane_order.specs.Order.{Order, IsOrderOf}
use Rattle.lane_order.specs.Placed.{named}
use Rattle.lane_order.specs.Listed.{Listed}
use Rattle.lane_order.proofs.Customers.{order_without_customer}
use Rattle.lane_order.proofs.order.LaneOrder.remove_cust.Goals as goal

pub returns-clause-order : goal.returns-clause-order
returns-clause-order c = λ I J k lanes _ valid of more.
    subst (λ (ls : List Listed). IsOrderOf (record { sites = c.self.inside.site_ids.items; lanes = map (λ (l : Listed). map (named c.self.inside.site_ids.items) l.lanes) ls; spare = c.self.inside.spare }) I) (sym c.remove.ensures.items)
    (order_without_customer I J c.args.place k lanes more valid c.self.inside.site_ids.items c.self.inside.lists.items c.self.inside.spare c.self.inside.spare (subst (λ (o : Order). IsOrderOf o J) (sym c.self.view_is) of))

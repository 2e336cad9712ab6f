use Rattle.std.proofs.Common.{refl}
use Rattle.lane_order.specs.declared.order.LaneOrder.TheInside.{Inside}
use Rattle.lane_order.proofs.Lists.{IsStored-lists, IsOrderOf-lists}
use Rattle.lane_order.proofs.order.LaneOrder.of.Goals as goal

pub invariant_of-result : goal.invariant_of-result
invariant_of-result c =
    let inside : Inside = record { site_ids = c.in_ok-site_ids.site_ids; lists = c.in_ok-lists.lists; fresh = c.new.result; spare = 0 } in
    IsStored-lists inside c.args.inst.now c.in_ok-site_ids.ensures.exact c.in_ok-lists.ensures c.in_ok-site_ids.ensures.valid refl c.new.ensures.items

pub returns : goal.returns
returns c =
    let inside : Inside = record { site_ids = c.in_ok-site_ids.site_ids; lists = c.in_ok-lists.lists; fresh = c.new.result; spare = 0 } in
    IsOrderOf-lists inside c.args.inst.now c.in_ok-site_ids.ensures.exact c.in_ok-lists.ensures c.in_ok-site_ids.ensures.valid

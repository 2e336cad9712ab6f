use Rattle.std.proofs.Common.{ℕ, Option, slice_index, sym, subst}
use Rattle.instance_store.specs.Changes.{with_lane_cost}
use Rattle.lane_order.specs.Order.{Order, lanes_to}
use Rattle.lane_order.specs.Changed.{IsLaneTo}
use Rattle.lane_order.proofs.Changed.{lane_of_order}
use Rattle.instance_edits.proofs.OrderChanges.{lane_set}
use Rattle.instance_edits.proofs.orders.lane_back.Goals as goal

pub set_lane-requires-clause-old : goal.set_lane-requires-clause-old
set_lane-requires-clause-old c =
    let order : Order = c.args.order.now in
    let i = c.place_of_site-from.result in
    let j = c.place_of_cust-to.result in
    subst (λ (o : Option ℕ). IsLaneTo (slice_index order.sites i) o (lanes_to order j)) (sym c.lane-old.ensures.exact)
    (lane_of_order c.args.inst.now order c.requires.order i j c.place_of_site-from.ensures.within c.place_of_cust-to.ensures.within)

pub returns : goal.returns
returns c =
    let I = c.args.inst.now in
    c.set_lane.ensures.order I (with_lane_cost I c.args.site c.args.cust c.args.cost) c.requires.valid c.requires.order
    (lane_set I c.args.site c.args.cust c.place_of_site-from.result c.place_of_cust-to.result c.args.cost c.place_of_site-from.ensures.id c.place_of_cust-to.ensures.id)

use Rattle.std.proofs.Common.{ℕ, Option, slice_index, sym, subst}
use Rattle.instance_store.specs.Changes.{with_lane_cost}
use Rattle.lane_order.specs.Order.{Order, lanes_to}
use Rattle.lane_order.specs.Changed.{IsLaneTo, DifferInLane}
use Rattle.lane_order.proofs.Changed.{lane_of_order}
use Rattle.instance_edits.proofs.OrderChanges.{lane_set, lane_set_back}
use Rattle.instance_edits.proofs.orders.lane_on.Goals as goal

pub set_lane-requires-clause-old : goal.set_lane-requires-clause-old
set_lane-requires-clause-old c =
    let J = c.args.inst.now in
    let I = with_lane_cost J c.args.site c.args.cust c.args.former in
    let order : Order = c.args.order.now in
    let i = c.place_of_site-from.result in
    let j = c.place_of_cust-to.result in
    let set = lane_set J c.args.site c.args.cust i j c.args.former c.place_of_site-from.ensures.id c.place_of_cust-to.ensures.id in
    subst (λ (o : Option ℕ). IsLaneTo (slice_index order.sites i) o (lanes_to order j)) set.changed
    (lane_of_order I order c.requires.order i j c.place_of_site-from.ensures.within c.place_of_cust-to.ensures.within)

pub returns : goal.returns
returns c =
    let J = c.args.inst.now in
    let I = with_lane_cost J c.args.site c.args.cust c.args.former in
    let i = c.place_of_site-from.result in
    let j = c.place_of_cust-to.result in
    c.set_lane.ensures.order I J c.requires.before c.requires.order
    (subst (λ (o : Option ℕ). DifferInLane I J i j o) (sym c.lane-new.ensures.exact)
    (lane_set_back J c.args.site c.args.cust i j c.args.former c.place_of_site-from.ensures.id c.place_of_cust-to.ensures.id))

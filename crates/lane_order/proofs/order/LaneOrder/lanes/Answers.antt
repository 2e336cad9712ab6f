use Rattle.std.proofs.Common.{List, map, length, All, sym, subst, ◌<◌, ◌∙◌, ap}
use Rattle.std.specs.List.Sorted.{IsNonDecreasingBy}
use Rattle.lane_order.specs.declared.order.PlacedLane.{PlacedLane}
use Rattle.lane_order.specs.Placed.{named}
use Rattle.lane_order.proofs.Lists.{list-seen, known-seen, ascending-seen}
use Rattle.lane_order.proofs.Placing.{costs_rise}
use Rattle.lane_order.proofs.order.LaneOrder.lanes.Goals as goal

pub returns-clause-exact : goal.returns-clause-exact
returns-clause-exact c =
    ap (λ (ls : List PlacedLane). map (named c.args.self.now.sites) ls) c.lanes.ensures
    ∙ list-seen c.self.inside c.self.invariant c.args.self.now c.self.view_is c.args.cust c.index.result.now c.requires c.index.ensures

pub returns-clause-known : goal.returns-clause-known
returns-clause-known c =
    subst (All (λ lane. lane.site < length c.args.self.now.sites)) (sym c.lanes.ensures)
    (known-seen c.self.inside c.self.invariant c.args.self.now c.self.view_is c.args.cust c.index.result.now c.requires c.index.ensures)

pub returns-clause-rising : goal.returns-clause-rising
returns-clause-rising c =
    subst (IsNonDecreasingBy (λ (l : PlacedLane). l.cost)) (sym c.lanes.ensures)
    (costs_rise c.index.result.now.lanes (ascending-seen c.self.inside c.self.invariant c.args.self.now c.self.view_is c.args.cust c.index.result.now c.requires c.index.ensures))

use Rattle.std.proofs.Common.{◌≡◌, List, map, filter, AllPairs, sym, ap, subst, ◌∙◌, arith}
use Rattle.lane_order.specs.declared.order.PlacedLane.{PlacedLane}
use Rattle.lane_order.specs.Listed.{IsPlacedBefore, HasPlaceMore, lane_down, is_elsewhere}
use Rattle.lane_order.proofs.Shifted.{more-down, ascending-down}
use Rattle.lane_order.proofs.lane_list.LaneList.remove_site.Goals as goal

pub returns : goal.returns
returns c =
    let old : List PlacedLane = c.args.self.now.lanes in
    let is : c.shift_down.new.self.lanes ≡ map (lane_down c.args.place) (filter (is_elsewhere c.args.place) old) = c.shift_down.ensures.lanes ∙ ap (map (lane_down c.args.place)) c.drop_from.ensures.lanes in
    record {
      ascending = subst (AllPairs IsPlacedBefore) (sym is) (ascending-down c.args.place old c.requires);
      others = subst (λ (ls : List PlacedLane). HasPlaceMore c.args.place ls old) (sym is) (more-down c.args.place old);
      spare = omega (arith, c.shift_down.ensures.spare, c.drop_from.ensures.spare);
    }

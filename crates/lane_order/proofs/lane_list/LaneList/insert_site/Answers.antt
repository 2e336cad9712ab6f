use Rattle.std.proofs.Common.{AllPairs, None, sym, subst, arith}
use Rattle.lane_order.specs.Listed.{IsPlacedBefore, IsLaneFrom, HasPlaceMore}
use Rattle.lane_order.proofs.Shifted.{more-up, none-up, ascending-up, still_more}
use Rattle.lane_order.proofs.lane_list.LaneList.insert_site.Goals as goal

pub add_lane-requires-clause-ascending : goal.add_lane-requires-clause-ascending
add_lane-requires-clause-ascending c = subst (AllPairs IsPlacedBefore) (sym c.shift_up.ensures.lanes) (ascending-up c.args.place c.args.self.now.lanes c.requires.ascending)

pub add_lane-requires-clause-none : goal.add_lane-requires-clause-none
add_lane-requires-clause-none c = subst (IsLaneFrom c.args.place None) (sym c.shift_up.ensures.lanes) (none-up c.args.place c.args.self.now.lanes)

pub returns : goal.returns
returns c = record {
  ascending = c.add_lane.ensures.ascending;
  given = c.add_lane.ensures.lane;
  others =
      still_more c.args.place c.args.self.now.lanes c.shift_up.new.self.lanes c.add_lane.new.self.lanes (subst (HasPlaceMore c.args.place c.args.self.now.lanes) (sym c.shift_up.ensures.lanes) (more-up c.args.place c.args.self.now.lanes))
      c.add_lane.ensures.others;
  spare = omega (arith, c.shift_up.ensures.spare, c.add_lane.ensures.spare);
}

use Rattle.lane_order.proofs.Replaced.{others_both}
use Rattle.lane_order.proofs.lane_list.LaneList.set.Goals as goal

pub returns-clause-others : goal.returns-clause-others
returns-clause-others c =
    others_both c.args.site c.args.self.now.lanes c.drop_lane.new.self.lanes c.add_lane.new.self.lanes c.drop_lane.ensures.others c.add_lane.ensures.others

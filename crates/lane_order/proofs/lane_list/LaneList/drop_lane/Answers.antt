use Rattle.std.proofs.Common.{Option, ℕ, subst}
use Rattle.lane_order.specs.Listed.{IsLaneFrom}
use Rattle.lane_order.proofs.Replaced.{gone}
use Rattle.lane_order.proofs.lane_list.LaneList.drop_lane.Goals as goal

pub remove-requires-clause-there : goal.remove-requires-clause-there
remove-requires-clause-there c = (c.requires.lane c.in-Some.cost).1 c.in-Some.is

pub returns-in-Some-clause-gone : goal.returns-in-Some-clause-gone
returns-in-Some-clause-gone c =
    gone c.args.site c.in-Some.cost c.args.self.now.lanes c.remove.new.self.lanes (subst (λ (o : Option ℕ). IsLaneFrom c.args.site o c.args.self.now.lanes) c.in-Some.is c.requires.lane) c.remove.ensures.lanes

pub returns-in_default-clause-gone : goal.returns-in_default-clause-gone
returns-in_default-clause-gone c = subst (λ (o : Option ℕ). IsLaneFrom c.args.site o c.args.self.now.lanes) c.in_default.is c.requires.lane

use Rattle.std.proofs.Common.{Option, ℕ, sym, subst}
use Rattle.lane_order.specs.Listed.{IsLaneFrom}
use Rattle.lane_order.proofs.Replaced.{there, others_with, from_others}
use Rattle.lane_order.proofs.lane_list.LaneList.add_lane.Goals as goal

pub insert-requires-clause-new : goal.insert-requires-clause-new
insert-requires-clause-new c = from_others c.args.site c.args.self.now.lanes c.requires.none

pub returns-in-Some-clause-lane : goal.returns-in-Some-clause-lane
returns-in-Some-clause-lane c =
    subst (λ (o : Option ℕ). IsLaneFrom c.args.site o c.insert.new.self.lanes) (sym c.in-Some.is) (there c.args.site c.in-Some.cost c.args.self.now.lanes c.insert.new.self.lanes c.requires.none c.insert.ensures.lanes)

pub returns-in-Some-clause-others : goal.returns-in-Some-clause-others
returns-in-Some-clause-others c = others_with c.args.site c.in-Some.cost c.args.self.now.lanes c.insert.new.self.lanes c.insert.ensures.lanes

pub returns-in_default-clause-lane : goal.returns-in_default-clause-lane
returns-in_default-clause-lane c = subst (λ (o : Option ℕ). IsLaneFrom c.args.site o c.args.self.now.lanes) (sym c.in_default.is) c.requires.none

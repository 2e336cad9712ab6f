use Rattle.plan_radius.proofs.LaneChanges.{all_below}
use Rattle.plan_radius.proofs.cheaper.drop_lanes.Goals as goal

pub returns : goal.returns
returns c = all_below c.args.radius c.args.inst.now c.change_lanes.new.inst c.sites-sites.ensures.valid c.change_lanes.ensures.part c.change_lanes.ensures.all

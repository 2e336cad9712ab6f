use Rattle.plan_radius.proofs.LaneChanges.{all_free}
use Rattle.plan_radius.proofs.cheaper.clear_costs.Goals as goal

pub returns : goal.returns
returns c = all_free c.args.inst.now c.clear_fixed.new.inst c.change_lanes.new.inst c.clear_fixed.ensures c.sites-sites.ensures.valid c.change_lanes.ensures.part c.change_lanes.ensures.all

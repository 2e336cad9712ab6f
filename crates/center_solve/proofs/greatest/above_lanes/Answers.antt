use Rattle.center_solve.proofs.Limits.{just_above}
use Rattle.center_solve.proofs.greatest.above_lanes.Goals as goal

pub returns : goal.returns
returns c = just_above c.args.inst.now c.greatest_lane.result c.sites-sites.ensures.valid c.greatest_lane.ensures.greatest c.greatest_lane.ensures.least

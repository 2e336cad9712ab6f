use Rattle.plan_radius.proofs.Thresholds.{least_from_impossible, impossible_from_least}
use Rattle.plan_radius.proofs.laws.least_radii.Goals as goal

pub returns : goal.returns
returns c I r valid = (impossible_from_least I r valid, least_from_impossible I r)

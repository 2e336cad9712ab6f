use Rattle.plan_radius.proofs.Costless.{all_close-costless}
use Rattle.plan_radius.proofs.laws.costless_bounds.Goals as goal

pub returns : goal.returns
returns c I t all = all_close-costless I t all

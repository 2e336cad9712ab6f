use Rattle.plan_radius.proofs.Thresholds.{cheap_exact}
use Rattle.plan_radius.proofs.Costless.{costless_feasible, feasible_costless}
use Rattle.plan_radius.proofs.laws.cheap_plans.Goals as goal

pub returns-clause-cheap : goal.returns-clause-cheap
returns-clause-cheap c = cheap_exact

pub returns-clause-costless : goal.returns-clause-costless
returns-clause-costless c I P = (feasible_costless I P, costless_feasible I P)

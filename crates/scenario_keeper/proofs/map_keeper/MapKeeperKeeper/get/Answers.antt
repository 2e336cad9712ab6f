use Rattle.std.proofs.Common.{ap, ◌∙◌}
use Rattle.std.specs.Prelude.{Some}
use Rattle.scenario_keeper.proofs.Tables.{get-table}
use Rattle.scenario_keeper.proofs.map_keeper.MapKeeperKeeper.get.Goals as goal

pub returns-in_ok-copied-in-Some-clause-found : goal.returns-in_ok-copied-in-Some-clause-found
returns-in_ok-copied-in-Some-clause-found c = ap Some c.in_ok-copied-in-Some.ensures ∙ c.in-Some.ensures.value ∙ get-table _ _

pub returns-in-None-clause-found : goal.returns-in-None-clause-found
returns-in-None-clause-found c = c.in-None.ensures.value ∙ get-table _ _

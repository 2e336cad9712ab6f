use Rattle.std.proofs.Common.{ap}
use Rattle.std.specs.Prelude.{Some}
use Rattle.scenario_keeper.proofs.Tables.{table-insert}
use Rattle.scenario_keeper.proofs.map_keeper.MapKeeperKeeper.put.Goals as goal

pub returns-clause-ok : goal.returns-clause-ok
returns-clause-ok c =
    ap Some (table-insert _ _ _ _ _ _ c.in_ok-insert.ensures.was_ordered c.in_ok-insert.ensures.ordered c.in_ok-insert.ensures.entries c.in_ok-name.ensures.ok c.in_ok-copied.ensures)

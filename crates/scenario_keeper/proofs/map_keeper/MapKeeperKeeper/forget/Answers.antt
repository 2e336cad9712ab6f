use Rattle.std.proofs.Common.{ap, sym, ◌∙◌}
use Rattle.std.specs.Prelude.{Some, is_some}
use Rattle.scenario_keeper.proofs.Tables.{get-table, table-remove}
use Rattle.scenario_keeper.proofs.map_keeper.MapKeeperKeeper.forget.Goals as goal

pub returns-clause-known : goal.returns-clause-known
returns-clause-known c = c.is_some.ensures ∙ ap is_some (c.remove.ensures.value ∙ get-table _ _)

pub returns-clause-ok : goal.returns-clause-ok
returns-clause-ok c = ap Some (table-remove _ _ _ c.remove.ensures.entries c.remove.ensures.updates.1)

-- What a keeper in memory tells, and how its calls go.
use Rattle.scenario_keeper.specs.Stored.{table_in}
use Rattle.scenario_keeper.specs.Table.{Table}
use Rattle.scenario_keeper.specs.declared.calls.Calls.{Calls}
use Rattle.scenario_keeper.specs.declared.map_keeper.MapKeeper.{MapKeeper}

abbrev pub table_of : MapKeeper → Table
table_of keeper = table_in keeper.scenarios

-- which of its calls fail, and how many were made and failed
abbrev pub calls_of : MapKeeper → Calls
calls_of keeper = keeper.calls

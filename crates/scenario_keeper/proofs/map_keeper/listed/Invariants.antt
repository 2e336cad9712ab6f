use Rattle.std.proofs.Common.{◌≡◌, map, ◌++◌}
use Rattle.scenario_keeper.proofs.Tables.{counted}
use Rattle.scenario_keeper.proofs.map_keeper.listed.Given as goal

-- the names so far, and those of the entries that are left
abbrev pub invariant-loop-name : goal.invariant-loop-name
invariant-loop-name l = l.names ++ map counted l.name-iterator ≡ map counted l.scenarios.entries

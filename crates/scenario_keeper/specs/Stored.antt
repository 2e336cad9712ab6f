-- How a keeper in memory holds its scenarios.
use Rattle.std.specs.Prelude.{ℕ, List, map, String, string_bytes}
use Rattle.std.specs.BTreeMap.{BTreeMap}
use Rattle.std.specs.FinMap.{from_entries}
use Rattle.scenario_keeper.specs.Scenario.{Scenario}
use Rattle.scenario_keeper.specs.Table.{Table}

-- the scenarios of a tree, by the bytes of their names
abbrev pub table_in : {Y : Type 0} → BTreeMap (String Y) Scenario → Table
table_in tree = from_entries (map (λ e. (string_bytes e.0, e.1)) tree.entries)

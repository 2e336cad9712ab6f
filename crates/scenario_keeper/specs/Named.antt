-- How a list of names is stored.
use Rattle.std.specs.Prelude.{ℕ, List, map, string_bytes}
use Rattle.scenario_keeper.specs.declared.name_list.Named.{Named}

-- the names with their numbers of edits
abbrev pub names_in : List Named → List (List ℕ × ℕ)
names_in named = map (λ e. (string_bytes e.name, e.lines)) named

-- The rows that a store has of names.
use Rattle.std.specs.Prelude.{◌≡◌, ℕ, pos, List, [], ◌∷◌, map, All}
use Rattle.sqlite_value.specs.Order.{Row}
use Rattle.sqlite_value.specs.declared.value.Value.TheVariants.{Int, Text}
use Rattle.scenario_keeper.specs.Names.{NamesRise}
use Rattle.scenario_keeper.specs.Spelling.{IsName}

-- the row of a name, with its number of edits
abbrev pub name_row : List ℕ × ℕ → Row
name_row entry = Text entry.0 ∷ Int (pos entry.1) ∷ []

-- the rows are those of the names, which rise by their bytes and are all spelled as names
pub record AreOfNames (names : List (List ℕ × ℕ)) (rows : List Row) : Type 0 where
  pub rows_are : rows ≡ map name_row names
  pub rise : NamesRise names
  pub named : All (λ e. IsName e.0) names

-- The table of a keeper, told or not, and what its calls make of it.
use Rattle.std.specs.Prelude.{◌≡◌, ℕ, List, length, map, Bool, Option, IfSome}
use Rattle.std.specs.Option.{option_map}
use Rattle.std.specs.Ordering.{nat_cmp}
use Rattle.std.specs.Cmp.Lexicographic.{slice_cmp}
use Rattle.std.specs.FinMap.{FinMap, contains_key, entries, get, insert, remove}
use Rattle.scenario_keeper.specs.Scenario.{Scenario}

-- scenarios by name; a name is the bytes of its text
abbrev pub Table : Type 0
Table = FinMap (slice_cmp nat_cmp) Scenario

-- the table, told or not, once this scenario stands under the name
abbrev pub with_scenario : Option Table → List ℕ → Scenario → Option Table
with_scenario told name what = option_map (λ table. insert table name what) told

-- the table, told or not, once nothing stands under the name
abbrev pub without_name : Option Table → List ℕ → Option Table
without_name told name = option_map (λ table. remove table name) told

-- where the table is told, this is what stands under the name, or none where nothing does
abbrev pub Finds : Option Table → List ℕ → Option Scenario → Type 0
Finds told name found = IfSome told (λ table. found ≡ get table name)

-- where the table is told, this says whether something stands under the name
abbrev pub SaysWhether : Option Table → List ℕ → Bool → Type 0
SaysWhether told name known = IfSome told (λ table. known ≡ contains_key table name)

-- the names of a table in the order of their bytes, each with its number of edits
abbrev pub names_of : Table → List (List ℕ × ℕ)
names_of table = map (λ e. (e.0, length e.1.edits)) (entries table)

-- where the table is told, these are its names
abbrev pub Lists : Option Table → List (List ℕ × ℕ) → Type 0
Lists told names = IfSome told (λ table. names ≡ names_of table)

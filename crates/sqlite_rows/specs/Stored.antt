-- The rows that a store has of a scenario.
use Rattle.std.specs.Prelude.{◌≡◌, ℕ, ◌+◌, pos, List, [], ◌∷◌, length, Option, None, Some}
use Rattle.sqlite_value.specs.Order.{Row}
use Rattle.sqlite_value.specs.declared.value.Value.TheVariants.{Int, Blob}
use Rattle.scenario_keeper.specs.Scenario.{Scenario}

-- the row of an edit: its place as a number, and its line as bytes
abbrev pub line_row : ℕ → List ℕ → Row
line_row place line = Int (pos place) ∷ Blob line ∷ []

-- the rows of edits, whose places go on from this one
abbrev pub lines_from : ℕ → List (List ℕ) → List Row
lines_from place [] = []
lines_from place (line ∷ lines) = line_row place line ∷ lines_from (place + 1) lines

-- the row of a base: its text, and how many edits lead on from it
abbrev pub base_row : List ℕ → ℕ → Row
base_row base edits = Blob base ∷ Int (pos edits) ∷ []

-- these are the row of a scenario's base and the rows of its edits, whose places are 1, 2, 3 and so on
pub record AreOf (scenario : Scenario) (base : Row) (lines : List Row) : Type 0 where
  pub base_is : base ≡ base_row scenario.base (length scenario.edits)
  pub lines_are : lines ≡ lines_from 1 scenario.edits

-- what a store answers for a name that has this scenario, or none: rows of a base, and rows of edits
abbrev pub Answers : Option Scenario → List Row → List Row → Type 0
Answers None base lines = (base ≡ []) × (lines ≡ [])
Answers (Some scenario) base lines = (row : Row) × (base ≡ row ∷ []) × AreOf scenario row lines

-- What is kept under a name.
use Rattle.std.specs.Prelude.{ℕ, ◌-◌, List, [], ◌∷◌, ◌++◌, length, take, refl}
use Rattle.std.specs.Coded.{Coded, code_by, coded×, coded_list, coded_ℕ}

-- a scenario: a text for its base, and a line for each edit, in order; what they mean is for a load to say
pub record Scenario : Type 0 where
  pub base : List ℕ
  pub edits : List (List ℕ)

-- a base without edits
abbrev pub unedited : List ℕ → Scenario
unedited base = record { base = base; edits = [] }

-- the scenario with one more edit behind its others
abbrev pub with_line : Scenario → List ℕ → Scenario
with_line scenario line = record scenario { edits = scenario.edits ++ line ∷ [] }

-- the scenario without the last of its edits, where it has one
abbrev pub without_last : Scenario → Scenario
without_last scenario = record scenario { edits = take (length scenario.edits - 1) scenario.edits }

-- the code by which a struct can have a scenario as its value
abbrev pub scenario_code : Coded Scenario
scenario_code =
    code_by (List ℕ × List (List ℕ)) (coded× (coded_list coded_ℕ) (coded_list (coded_list coded_ℕ)))
    (λ s. (s.base, s.edits)) (λ p. record { base = p.0; edits = p.1 }) (λ _. refl)

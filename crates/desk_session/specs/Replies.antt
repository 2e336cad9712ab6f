-- The replies to lines that ask something of a keeper.
use Rattle.std.specs.Prelude.{ℕ, List, ◌++◌, flat_map, codes}
use Rattle.number_words.specs.Number.{digits_text}
use Rattle.desk_session.specs.declared.fault.DeskFault.{DeskFault}
use Rattle.desk_session.specs.declared.fault.DeskFault.TheVariants.{NoScenario, BadScenario, KeeperFailed}

-- why a line is refused
abbrev pub desk_refusal_text : DeskFault → List ℕ
desk_refusal_text NoScenario = codes "refused NoScenario\n"
desk_refusal_text (BadScenario line) = codes "refused BadScenario line " ++ digits_text line ++ codes "\n"
desk_refusal_text KeeperFailed = codes "refused KeeperFailed\n"

-- a scenario of so many edits is loaded
abbrev pub loaded_text : ℕ → List ℕ
loaded_text edits = codes "ok edits " ++ digits_text edits ++ codes "\n"

-- a name with its number of edits
abbrev pub name_line : List ℕ × ℕ → List ℕ
name_line entry = codes "name " ++ entry.0 ++ codes " edits " ++ digits_text entry.1 ++ codes "\n"

abbrev pub names_text : List (List ℕ × ℕ) → List ℕ
names_text names = flat_map name_line names ++ codes "end\n"

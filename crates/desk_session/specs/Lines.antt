-- The lines that ask something of a keeper of scenarios. All others are those of a session.
use Rattle.std.specs.Prelude.{ℕ, List, [], ◌∷◌, Option, None, Some, bytes_eq, codes, if◌then◌else◌}
use Rattle.number_words.specs.Line.{words_of_line}
use Rattle.scenario_keeper.specs.Spelling.{is_name}

-- to keep the edits in force under a name, to begin anew with what is kept there, to forget it, or to list names
pub data KeeperLine : Type 0 where
  Keep Load Forget : (name : List ℕ) → KeeperLine
  Names : KeeperLine

-- what a word asks for with this name behind it, if it is one of these three
abbrev pub named_line : (verb name : List ℕ) → Option KeeperLine
named_line verb name =
    if bytes_eq verb (codes "keep") then Some (Keep name)
    else (if bytes_eq verb (codes "load") then Some (Load name) else (if bytes_eq verb (codes "forget") then Some (Forget name) else None))

-- `keep NAME`, `load NAME`, `forget NAME` and `names`
abbrev pub keeper_words : List (List ℕ) → Option KeeperLine
keeper_words [] = None
keeper_words (verb ∷ []) = if bytes_eq verb (codes "names") then Some Names else None
keeper_words (verb ∷ name ∷ []) = if is_name name then named_line verb name else None
keeper_words (verb ∷ name ∷ word ∷ words) = None

-- what a line asks of the keeper; none where it is left to the session, which refuses what it doesn't know
abbrev pub keeper_line : List ℕ → Option KeeperLine
keeper_line line = keeper_words (words_of_line line)

-- What the shelf in memory holds.
use Rattle.std.specs.Prelude.{ℕ, List, map, Vec, String, string_bytes, Bool}
use Rattle.std.specs.Str.{bytes_eq}
use Rattle.std.specs.FinMap.{from_entries}
use Rattle.shelf_port.specs.Files.{Files}

-- the names with their bytes
abbrev pub entries_of : {Y Z : Type 0} → List (String Y × Vec ℕ Z) → List (List ℕ × List ℕ)
entries_of files = map (λ f. (string_bytes f.0, f.1.items)) files

-- the files of a list; of several with one name the first counts
abbrev pub files_of_list : {Y Z : Type 0} → List (String Y × Vec ℕ Z) → Files
files_of_list files = from_entries (entries_of files)

-- whether a file has this name
abbrev pub is_named : {Y Z : Type 0} → List ℕ → String Y × Vec ℕ Z → Bool
is_named name f = bytes_eq name (string_bytes f.0)

-- What a reader of lines has left of a file.
use Rattle.std.specs.Prelude.{◌≡◌, ℕ, ◌+◌, ◌-◌, ◌<◌, ◌≤◌, List, [], ◌++◌, length, take, drop, Option, Some, IsSomeAnd}
use Rattle.std.specs.Option.{ForSome}
use Rattle.std.specs.List.{before_first, after_first}
use Rattle.std.specs.FinMap.{get}
use Rattle.shelf_port.specs.Files.{Files}
use Rattle.shelf_lines.specs.Line.{is_line_feed}

-- how many bytes of the file are looked at, at most; how many were fetched; those of them that are not handed out yet; the line handed out last
pub record LineState : Type 0 where
  pub limit : ℕ
  pub at : ℕ
  pub ahead : List ℕ
  pub line : List ℕ

-- the reader before its first read
abbrev pub start_of : ℕ → LineState
start_of limit = record { limit = limit; at = 0; ahead = []; line = [] }

-- what a reader has left of the bytes of a file: what it fetched and did not hand out, and what it did not fetch
abbrev pub rest_of : LineState → List ℕ → List ℕ
rest_of r file = r.ahead ++ drop r.at (take r.limit file)

-- how many bytes a reader has left, where the file is long enough
abbrev pub unread : LineState → ℕ
unread r = (r.limit - r.at) + length r.ahead

-- this holds of the bytes of the named file, where the files are told and it is there
abbrev pub ForFile : Option Files → List ℕ → (List ℕ → Type 0) → Type 0
ForFile told name P = ForSome told (λ files. ForSome (get files name) P)

-- the files are told, and the named one is there and holds exactly these bytes
abbrev pub TellsFile : Option Files → List ℕ → List ℕ → Type 0
TellsFile told name bytes = IsSomeAnd told (λ files. get files name ≡ Some bytes)

-- nothing is left, and all of the file lies within the limit
pub record IsAtEnd (r : LineState) (file : List ℕ) : Type 0 where
  pub rest : rest_of r file ≡ []
  pub within : length file ≤ r.limit

-- nothing is left within the limit, and the file is longer
pub record IsAtLimit (r : LineState) (file : List ℕ) : Type 0 where
  pub rest : rest_of r file ≡ []
  pub longer : r.limit < length file

-- the bytes ahead up to the first line feed went to the line, and those behind it stay ahead
pub record Takes (old new : LineState) : Type 0 where
  pub line : new.line ≡ old.line ++ before_first is_line_feed old.ahead
  pub ahead : new.ahead ≡ after_first is_line_feed old.ahead
  pub same_limit : new.limit ≡ old.limit
  pub same_at : new.at ≡ old.at

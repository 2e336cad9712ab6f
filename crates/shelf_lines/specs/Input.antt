-- What a reader of an input has left, and when a limit is passed.
use Rattle.std.specs.Prelude.{◌≡◌, ◌⊎◌, ℕ, ◌+◌, ◌<◌, List, [], ◌∷◌, ◌++◌, length, Option}
use Rattle.shelf_port.specs.Streams.{with_front}
use Rattle.shelf_lines.specs.Line.{IsLine}
use Rattle.shelf_lines.specs.Rest.{LineState, unread}

-- the lines with the one byte past the limit in all that is looked at, and how many bytes a line may have
pub record InputState : Type 0 where
  pub lines : LineState
  pub most : ℕ

-- Bytes that begin with more than so many without a line feed.
pub record HasLongLine (most : ℕ) (bytes : List ℕ) : Type 0 where
  pub front : List ℕ
  pub behind : List ℕ
  pub bytes_are : bytes ≡ front ++ behind
  pub is_line : IsLine front
  pub long : most < length front

-- As many bytes came as a reader had left to look at: the line, perhaps with the line feed that ends it.
pub record PassesLimit (old new : LineState) (before after : Option (List ℕ)) : Type 0 where
  pub spent : new.ahead ≡ []
  pub bytes :
      ((unread old ≡ length new.line) × (with_front old.ahead before ≡ with_front (new.line ++ new.ahead) after))
      ⊎ ((unread old ≡ length new.line + 1) × (with_front old.ahead before ≡ with_front (new.line ++ 10 ∷ new.ahead) after))

-- Nothing that was fetched waits, and the line so far passes no limit of all that is looked at.
pub record IsCutShort (old new : LineState) : Type 0 where
  pub spent : new.ahead ≡ []
  pub within : length new.line < unread old

-- Lines, and the line feeds that end them.
use Rattle.std.specs.Prelude.{◌≡◌, ◌==◌, ℕ, Bool, false, List, All}

-- a line feed
abbrev pub is_line_feed : ℕ → Bool
is_line_feed b = b == 10

-- bytes without a line feed
abbrev pub IsLine : List ℕ → Type 0
IsLine bytes = All (λ b. is_line_feed b ≡ false) bytes

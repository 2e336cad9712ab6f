-- Bounds at two scales, compared without a division.
use Rattle.std.specs.Prelude.{ℕ, ℤ, pos, ◌*ℤ◌, ◌≤ℤ◌, ◌<ℤ◌}

-- b / q is at least c / r
abbrev pub IsAtLeast : ℤ → ℕ → ℤ → ℕ → Type 0
IsAtLeast b q c r = (pos q *ℤ c) ≤ℤ (pos r *ℤ b)

-- b / q is greater than c / r
abbrev pub IsGreater : ℤ → ℕ → ℤ → ℕ → Type 0
IsGreater b q c r = (pos q *ℤ c) <ℤ (pos r *ℤ b)

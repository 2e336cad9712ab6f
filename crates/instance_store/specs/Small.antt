-- Amounts, and rows of amounts, within the limit.
use Rattle.std.specs.Prelude.{ℕ, ◌≤◌, List, All, Option, IfSome}
use Rattle.location_terms.specs.declared.limits.TheConstants.{MAX_AMOUNT}

-- a number, where there is one, is an amount
abbrev pub IsSmall : Option ℕ → Type 0
IsSmall x = IfSome x (λ n. n ≤ MAX_AMOUNT)

-- each number of a row is an amount
abbrev pub AreSmall : List (Option ℕ) → Type 0
AreSmall row = All IsSmall row

-- Lists of names with a number each.
use Rattle.std.specs.Prelude.{◌≡◌, ℕ, List, map, All}
use Rattle.std.specs.Ordering.{nat_cmp}
use Rattle.std.specs.declared.cmp.Ordering.TheVariants.{Less}
use Rattle.std.specs.Cmp.Lexicographic.{slice_cmp}
use Rattle.std.specs.List.Sorted.{IsStrictlySortedBy}

-- each name is below those behind it, by its bytes
abbrev pub NamesRise : List (List ℕ × ℕ) → Type 0
NamesRise names = IsStrictlySortedBy (slice_cmp nat_cmp) (map (λ e. e.0) names)

-- the name is above all of the list
abbrev pub IsAbove : List (List ℕ × ℕ) → List ℕ → Type 0
IsAbove names name = All (λ e. slice_cmp nat_cmp e.0 name ≡ Less) names

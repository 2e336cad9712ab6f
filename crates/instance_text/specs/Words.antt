-- For private functions alone: no public contract cites this page.
-- What it means that a reader passed over words that are given.
use Rattle.std.specs.Prelude.{◌≡◌, Result, Ok, Err}
use Rattle.fixed_cost.specs.Reading.{Rest}
use Rattle.fixed_cost.specs.declared.fault.FileFault.{FileFault}

-- what is left is what the definition leaves, or the fault is the same; behind a fault nothing is said of what is left
abbrev pub Passes : {X : Type 0} → Result X FileFault → Rest → Result Rest FileFault → Type 0
Passes (Ok x) rest read = read ≡ Ok rest
Passes (Err fault) rest read = read ≡ Err fault

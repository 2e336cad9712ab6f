-- What a source has left and what a sink has taken, where they tell it, and how many calls of a sink were refused.
use Rattle.std.specs.Prelude.{◌≡◌, ℕ, Bool, true, false, IsTrue, List, ◌++◌, Option}
use Rattle.std.specs.Option.{option_map}
use Rattle.shelf_port.specs.Files.{one_more}

-- these bytes in front of what is told
abbrev pub with_front : List ℕ → Option (List ℕ) → Option (List ℕ)
with_front bytes told = option_map (λ rest. bytes ++ rest) told

-- these bytes behind what is told
abbrev pub with_back : Option (List ℕ) → List ℕ → Option (List ℕ)
with_back told bytes = option_map (λ front. front ++ bytes) told

-- how many calls were refused, for whatever cause, and whether the last call was
pub record Refusals : Type 0 where
  pub count : ℕ
  pub last : Bool

-- before the first call
abbrev pub no_refusals : Refusals
no_refusals = record { count = 0; last = false }

-- once one more call was taken
abbrev pub taken : Refusals → Refusals
taken r = record { count = r.count; last = false }

-- once one more call was refused
abbrev pub refused : Refusals → Refusals
refused r = record { count = one_more r.count; last = true }

-- One call was refused, and it was the last: nothing was written or tried behind it.
pub record RefusedLast (old new : Refusals) : Type 0 where
  pub once : new.count ≡ one_more old.count
  pub last : IsTrue new.last

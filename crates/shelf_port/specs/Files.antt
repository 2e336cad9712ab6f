-- What a shelf tells of its files, what its calls do to them, and how its counts of faults go.
use Rattle.std.specs.Prelude.{◌≡◌, ◌⊎◌, ℕ, ◌+◌, ◌-◌, ◌^◌, min, ◌<◌, ◌≤◌, List, [], ◌++◌, length, take, drop, Option, None, Some, unwrap_or, IfSome, IsSomeAnd}
use Rattle.std.specs.Option.{option_map}
use Rattle.std.specs.Ordering.{nat_cmp}
use Rattle.std.specs.Cmp.Lexicographic.{slice_cmp}
use Rattle.std.specs.FinMap.{FinMap, get, insert}

-- files by name; a name is the bytes of its text
abbrev pub Files : Type 0
Files = FinMap (slice_cmp nat_cmp) (List ℕ)

-- the bytes of a file, where a missing one counts as empty
abbrev pub bytes_of : Files → List ℕ → List ℕ
bytes_of files name = unwrap_or (get files name) []

-- the files, told or not, once the named one holds exactly these bytes
abbrev pub with_file : Option Files → List ℕ → List ℕ → Option Files
with_file told name bytes = option_map (λ files. insert files name bytes) told

-- the files, told or not, once these bytes stand at the end of the named one, which is made where it is missing
abbrev pub with_added : Option Files → List ℕ → List ℕ → Option Files
with_added told name more = option_map (λ files. insert files name (bytes_of files name ++ more)) told

-- where the files are told, the named one is there, and this holds of its bytes
abbrev pub HasFile : Option Files → List ℕ → (List ℕ → Type 0) → Type 0
HasFile told name P = IfSome told (λ files. IsSomeAnd (get files name) P)

-- the named file holds these bytes, as far as the shelf tells
abbrev pub MayHold : Option Files → List ℕ → List ℕ → Type 0
MayHold None name bytes = Unit {0}
MayHold (Some files) name bytes = get files name ≡ Some bytes

-- a read at a place put n bytes of the file at the front of the buffer, and left what lies behind them
pub record IsPiece (file : List ℕ) (at n : ℕ) (old new : List ℕ) : Type 0 where
  pub front : take n new ≡ take n (drop at file)
  pub behind : drop n new ≡ drop n old
  pub end : n ≡ 0 → 0 < length new → length file ≤ at

-- the files are as before, or the named one holds a prefix of the bytes and the others are as before
abbrev pub LeavesPrefix : Option Files → Option Files → List ℕ → List ℕ → Type 0
LeavesPrefix old new name bytes = (new ≡ old) ⊎ ((k : ℕ) × (k ≤ length bytes) × (new ≡ with_file old name (take k bytes)))

-- the files are as before, or a prefix of the bytes was added at the end of the named one and the others are as before
abbrev pub AddsPrefix : Option Files → Option Files → List ℕ → List ℕ → Type 0
AddsPrefix old new name bytes = (new ≡ old) ⊎ ((k : ℕ) × (k ≤ length bytes) × (new ≡ with_added old name (take k bytes)))

-- one more, where a counter stays at its last value
abbrev pub one_more : ℕ → ℕ
one_more n = min (n + 1) (2 ^ 64 - 1)

-- one call counts one more fault where it failed, and none otherwise
abbrev pub CountsOnly : Type 0 → ℕ → ℕ → Type 0
CountsOnly failed before after = (failed → after ≡ one_more before) × (failed ⊎ (after ≡ before))

-- a count of faults rose, or stands at the last value of its counter
abbrev pub Rose : ℕ → ℕ → Type 0
Rose before after = (before < after) ⊎ (2 ^ 64 - 1 ≤ after)

-- the counts of all names go up or stay
abbrev pub NeverFalls : (List ℕ → ℕ) → (List ℕ → ℕ) → Type 0
NeverFalls before after = (name : List ℕ) → before name ≤ after name

-- For private functions alone: no public contract cites this page.
-- Sites flagged by place.
use Rattle.std.specs.Prelude.{◌≡◌, ℕ, ◌<◌, Bool, false, List, length, filter, slice_index_or}
use Rattle.std.specs.List.{range_with_len}

-- the place is flagged
abbrev pub is_set : List Bool → ℕ → Bool
is_set flags i = slice_index_or flags i false

-- the flagged places, in order
abbrev pub flagged : List Bool → List ℕ
flagged flags = filter (is_set flags) (range_with_len 0 (length flags))

-- so many places are flagged just where they pass the test
pub record AreFlags (test : ℕ → Bool) (count : ℕ) (flags : List Bool) : Type 0 where
  pub long : length flags ≡ count
  pub each : (i : ℕ) → i < count → is_set flags i ≡ test i

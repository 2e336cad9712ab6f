use Rattle.std.proofs.Common.{◌≡◌, ℕ, ◌<◌, false, take, None, slice_index_or}
use Rattle.pmed_paths.specs.Median.{is_past}
use Rattle.pmed_paths.proofs.median.lanes.Given as goal

-- the lanes so far, none of which costs too much
abbrev pub invariant-loop-place : goal.invariant-loop-place
invariant-loop-place l = (l.row ≡ take l.place l.distances) × ((k : ℕ) → k < l.place → is_past (slice_index_or l.distances k None) ≡ false)

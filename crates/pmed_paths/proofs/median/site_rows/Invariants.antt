use Rattle.std.proofs.Common.{◌≡◌, ℕ, ◌+◌, ◌<◌, false, map}
use Rattle.std.specs.List.{range_with_len}
use Rattle.pmed_paths.specs.Median.{is_far, vertex_row}
use Rattle.pmed_paths.proofs.median.site_rows.Given as goal

-- the rows so far, no lane of which costs too much
abbrev pub invariant-loop-place : goal.invariant-loop-place
invariant-loop-place l = (l.rows.items ≡ map (λ a. vertex_row l.net a) (range_with_len 1 l.place)) × ((k : ℕ) → k < l.place → is_far l.net (k + 1) ≡ false)

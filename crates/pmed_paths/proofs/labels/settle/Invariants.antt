use Rattle.std.proofs.Common.{◌≡◌, ◌+◌, ◌<◌, length, All, sum_by}
use Rattle.pmed_paths.specs.Labels.{GoesOn, offers}
use Rattle.pmed_paths.proofs.labels.settle.Given as goal

-- what waits is in its place, and the search goes on
abbrev pub invariant-loop-cost : goal.invariant-loop-cost
invariant-loop-cost l = All (λ e. e.1 < length l.labels) (offers l.waiting) × (length l.labels ≡ length l.rows) × GoesOn l.rows l.fn.labels (offers l.fn.waiting) l.labels (offers l.waiting)

abbrev pub decreases-loop-cost : goal.decreases-loop-cost
decreases-loop-cost l = sum_by (λ x. x) l.labels + length (offers l.waiting)

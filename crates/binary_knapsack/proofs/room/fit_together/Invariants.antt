use Rattle.std.proofs.Common.{◌≡◌, ◌+◌, take}
use Rattle.std.specs.Prelude.{sum_by}
use Rattle.binary_knapsack.proofs.room.fit_together.Given as goal

abbrev pub invariant-loop-load : goal.invariant-loop-load
invariant-loop-load l = l.room + sum_by (λ x. x.weight) (take l.load-index l.loads) ≡ l.cap

use Rattle.std.proofs.Common.{◌≡◌, List, drop, max}
use Rattle.binary_knapsack.specs.Loads.{Load, reach}
use Rattle.binary_knapsack.specs.Bounds.{IsBound}
use Rattle.binary_knapsack.proofs.merging.pass_all.Given as goal

abbrev pub invariant-loop-i : goal.invariant-loop-i
invariant-loop-i l = (rest : List Load) → IsBound l.limit rest → max l.limit.best (max (reach rest l.next.items) (reach rest (drop l.i l.choices))) ≡ max l.limit.best (max (reach rest l.fn.next.items) (reach rest (drop l.from l.choices)))

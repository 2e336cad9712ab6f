use Rattle.std.proofs.Common.{◌≡◌, ◌+◌, drop, get_or, max}
use Rattle.std.specs.List.{filter_map}
use Rattle.binary_knapsack.specs.Loads.{taking_load, reach}
use Rattle.binary_knapsack.proofs.merging.add_load.Given as goal

abbrev pub invariant-loop-choice : goal.invariant-loop-choice
invariant-loop-choice l = max l.limit.best (max (reach (drop (l.k + 1) l.loads) l.next.items) (max (reach (drop (l.k + 1) l.loads) (drop l.without l.choices)) (reach (drop (l.k + 1) l.loads) (filter_map (taking_load (get_or l.loads l.k (record { weight = 0; worth = 0 }))) (drop l.choice-index l.choices))))) ≡ max l.limit.best (reach (drop l.k l.loads) l.choices)

use Rattle.std.proofs.Common.{◌≡◌, [], drop, max}
use Rattle.binary_knapsack.specs.Loads.{reach}
use Rattle.binary_knapsack.proofs.searching.greatest.Given as goal

abbrev pub invariant-loop-choice : goal.invariant-loop-choice
invariant-loop-choice l = max l.best (reach [] (drop l.choice-index l.choices)) ≡ max l.reached (reach [] l.choices)

use Rattle.std.proofs.Common.{◌+◌, ◌≤◌, drop}
use Rattle.binary_knapsack.specs.Loads.{most}
use Rattle.binary_knapsack.proofs.searching.packed.Given as goal

abbrev pub invariant-loop-load : goal.invariant-loop-load
invariant-loop-load l = l.worth + most l.room (drop l.load-index l.loads) ≤ most l.cap l.loads

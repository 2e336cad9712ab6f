use Rattle.std.proofs.Common.{◌≡◌, take}
use Rattle.leaf_repair.proofs.places.customer_numbers.Given as goal

abbrev pub invariant-loop-k : goal.invariant-loop-k
invariant-loop-k l = l.numbers.items ≡ take l.k l.ids

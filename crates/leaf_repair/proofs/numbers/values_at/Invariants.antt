use Rattle.std.proofs.Common.{◌≡◌, map, take, pos}
use Rattle.leaf_repair.specs.Placed.{at_place}
use Rattle.leaf_repair.proofs.numbers.values_at.Given as goal

abbrev pub invariant-loop-cust : goal.invariant-loop-cust
invariant-loop-cust l = l.carried.items ≡ map (at_place l.values (pos 0)) (take l.cust l.places)

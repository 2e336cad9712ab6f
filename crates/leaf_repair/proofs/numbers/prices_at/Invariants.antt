use Rattle.std.proofs.Common.{◌≡◌, take}
use Rattle.leaf_repair.specs.Placed.{prices_at}
use Rattle.leaf_repair.proofs.numbers.prices_at.Given as goal

abbrev pub invariant-loop-site : goal.invariant-loop-site
invariant-loop-site l = l.carried.items ≡ take l.site (prices_at l.inst l.places l.prices)

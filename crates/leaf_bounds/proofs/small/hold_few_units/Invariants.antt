use Rattle.std.proofs.Common.{◌≡◌, true, take}
use Rattle.std.specs.List.{list_all}
use Rattle.location_terms.specs.Knapsack.{holds_few_units}
use Rattle.leaf_bounds.proofs.small.hold_few_units.Given as goal

abbrev pub invariant-loop-site : goal.invariant-loop-site
invariant-loop-site l = list_all (λ s. holds_few_units l.inst s.cap) (take l.site l.inst.sites) ≡ true

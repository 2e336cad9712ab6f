-- The bound is within the cost; and a bound above 0 at scale 0 would be above itself.
use Rattle.std.proofs.Common.{◌*◌, ap, arith}
use Rattle.std.proofs.lemmas.Int.{ints}
use Rattle.location_terms.specs.Plan.{cost_of}
use Rattle.location_terms.proofs.Duality.{bound_within_cost, leaf_bound_within_cost}
use Rattle.location_terms.proofs.laws.weak_duality.Goals as goal

pub returns-clause-bound : goal.returns-clause-bound
returns-clause-bound c I path d P valid duals feasible in_box = bound_within_cost I path d P valid feasible duals in_box

pub returns-clause-leaf : goal.returns-clause-leaf
returns-clause-leaf c I path d P valid duals feasible in_box = leaf_bound_within_cost I path d P valid feasible duals in_box

pub returns-clause-empty_box : goal.returns-clause-empty_box
returns-clause-empty_box c I path d valid duals unscaled above P feasible in_box =
    omega (arith, ints, leaf_bound_within_cost I path d P valid feasible duals in_box, ap (λ q. q * cost_of I P) unscaled)

use Rattle.std.proofs.Common.{◌≡◌, ◌≤◌, length}
use Rattle.std.specs.Prelude.{All, unsigned_abs}
use Rattle.location_terms.specs.declared.limits.TheConstants.{MAX_VALUE}
use Rattle.tree_search.proofs.rays.demands.Given as goal

abbrev pub invariant-loop-cust : goal.invariant-loop-cust
invariant-loop-cust l = record { long : length l.values.items ≡ l.cust; small : All (λ v. unsigned_abs v ≤ MAX_VALUE) l.values.items }

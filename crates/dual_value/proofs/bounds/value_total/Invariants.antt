use Rattle.std.proofs.Common.{◌≡◌, ◌*◌, ◌≤◌}
use Rattle.std.specs.Int.RustNames.{unsigned_abs}
use Rattle.location_terms.specs.Bound.{total, v_at}
use Rattle.location_terms.specs.declared.limits.TheConstants.{MAX_VALUE}
use Rattle.dual_value.proofs.bounds.value_total.Given as goal

abbrev pub invariant-loop-cust : goal.invariant-loop-cust
invariant-loop-cust g l = record {
  exact : l.sum ≡ total (v_at (g.D.DualsByPlace.numbers l.duals)) l.cust;
  small : unsigned_abs l.sum ≤ l.cust * MAX_VALUE;
}

use Rattle.std.proofs.Common.{◌≡◌, ◌*◌, pos, ◌≤ℤ◌}
use Rattle.location_terms.specs.Bound.{total, paid_at}
use Rattle.location_terms.specs.declared.limits.TheConstants.{MAX_VALUE}
use Rattle.dual_value.proofs.bounds.paid_from.Given as goal

abbrev pub invariant-loop-cust : goal.invariant-loop-cust
invariant-loop-cust g l = record {
  exact : l.sum ≡ total (paid_at l.inst l.path.steps.now (g.D.DualsByPlace.numbers l.duals) l.site) l.cust;
  low : pos 0 ≤ℤ l.sum;
  high : l.sum ≤ℤ pos (l.cust * MAX_VALUE);
}

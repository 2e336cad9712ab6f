use Rattle.std.proofs.Common.{◌≡◌, ◌*◌, ◌≤◌}
use Rattle.std.specs.Int.RustNames.{unsigned_abs}
use Rattle.location_terms.specs.Bound.{total, share_of}
use Rattle.dual_value.specs.declared.bounds.TheConstants.{MAX_SLACK}
use Rattle.dual_value.proofs.bounds.share_total.Given as goal

abbrev pub invariant-loop-site : goal.invariant-loop-site
invariant-loop-site g l = record {
  exact : l.sum ≡ total (share_of l.inst l.path.steps.now (g.D.DualsByPlace.numbers l.duals)) l.site;
  small : unsigned_abs l.sum ≤ l.site * MAX_SLACK;
}

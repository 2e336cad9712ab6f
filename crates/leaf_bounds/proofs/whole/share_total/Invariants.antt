use Rattle.std.proofs.Common.{◌≡◌, ◌*◌, ◌≤◌}
use Rattle.std.specs.Int.RustNames.{unsigned_abs}
use Rattle.location_terms.specs.Bound.{total}
use Rattle.location_terms.specs.Leaf.{share_in}
use Rattle.location_terms.specs.declared.form.LeafForm.TheVariants.{Whole}
use Rattle.dual_value.specs.declared.bounds.TheConstants.{MAX_SLACK}
use Rattle.leaf_bounds.proofs.whole.share_total.Given as goal

abbrev pub invariant-loop-site : goal.invariant-loop-site
invariant-loop-site l = record {
  exact : l.sum ≡ total (share_in Whole l.boxed.instance l.boxed.path l.duals) l.site;
  small : unsigned_abs l.sum ≤ l.site * MAX_SLACK;
}

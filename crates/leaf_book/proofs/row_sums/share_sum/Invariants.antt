use Rattle.std.proofs.Common.{◌≡◌, ◌*◌, ◌≤◌, pos, slice_index_or}
use Rattle.std.specs.Int.RustNames.{unsigned_abs}
use Rattle.location_terms.specs.Instance.{site_at}
use Rattle.location_terms.specs.Bound.{total}
use Rattle.dual_value.specs.Paid.{share_with}
use Rattle.dual_value.specs.declared.bounds.TheConstants.{MAX_SLACK}
use Rattle.leaf_book.proofs.row_sums.share_sum.Given as goal

abbrev pub invariant-loop-site : goal.invariant-loop-site
invariant-loop-site l = record {
  exact : l.sum ≡ total (λ i. share_with l.path (site_at l.inst i) (slice_index_or l.slacks i (pos 0))) l.site;
  small : unsigned_abs l.sum ≤ l.site * MAX_SLACK;
}

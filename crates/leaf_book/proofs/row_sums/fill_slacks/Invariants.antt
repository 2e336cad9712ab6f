use Rattle.std.proofs.Common.{◌≡◌, ◌≤◌, map}
use Rattle.std.specs.Prelude.{All, vec_len, vec_capacity}
use Rattle.std.specs.List.{range_with_len}
use Rattle.std.specs.Int.RustNames.{unsigned_abs}
use Rattle.location_terms.specs.Bound.{slack_of}
use Rattle.dual_value.specs.declared.bounds.TheConstants.{MAX_SLACK}
use Rattle.leaf_book.proofs.row_sums.fill_slacks.Given as goal

-- the slacks of the sites so far
abbrev pub invariant-loop-site : goal.invariant-loop-site
invariant-loop-site g l = record {
  exact : l.slacks.items ≡ map (slack_of l.inst l.path (g.D.DualsByPlace.numbers l.duals)) (range_with_len 0 l.site);
  small : All (λ slack. unsigned_abs slack ≤ MAX_SLACK) l.slacks.items;
  len : vec_len l.slacks ≡ l.site;
  room : vec_capacity l.slacks ≡ vec_capacity l.fn.slacks;
}

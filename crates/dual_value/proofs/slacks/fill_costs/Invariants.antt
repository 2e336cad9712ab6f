use Rattle.std.proofs.Common.{◌≡◌, ℕ, ◌<◌, length, pos, slice_index_or}
use Rattle.dual_value.specs.Paid.{priced_cost}
use Rattle.dual_value.proofs.slacks.fill_costs.Given as goal

abbrev pub invariant-loop-site : goal.invariant-loop-site
invariant-loop-site l = record {
  long : length l.slacks ≡ length l.boxed.instance.sites;
  each : (i : ℕ) → i < l.site → slice_index_or l.slacks i (pos 0) ≡ priced_cost l.boxed.instance l.duals i;
}

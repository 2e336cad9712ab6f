use Rattle.std.proofs.Common.{◌≡◌, ℕ, ◌<◌, length, slice_index_or}
use Rattle.location_terms.specs.Instance.{site_at}
use Rattle.dual_value.specs.PreparedSites.{IsDemandEnd}
use Rattle.dual_value.proofs.preparing.demand_ends.Given as goal

abbrev pub invariant-loop-site : goal.invariant-loop-site
invariant-loop-site l = record {
  count : length l.ends.items ≡ l.site;
  each : (i : ℕ) (d : ℕ) → i < l.site → IsDemandEnd l.inst l.path (site_at l.inst i) (slice_index_or l.ends.items i d);
}

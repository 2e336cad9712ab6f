use Rattle.std.proofs.Common.{◌≡◌, ℕ, ◌<◌, [], length, slice_index_or}
use Rattle.location_terms.specs.Instance.{site_at}
use Rattle.dual_value.specs.SiteState.{IsState}
use Rattle.dual_value.specs.declared.settled.SiteState.{SiteState}
use Rattle.dual_value.proofs.preparing.states_by_status.Given as goal

abbrev pub invariant-loop-site : goal.invariant-loop-site
invariant-loop-site l = record {
  count : length l.states.items ≡ l.site;
  each : (i : ℕ) (d : SiteState) → i < l.site → IsState [] (site_at l.inst i) (slice_index_or l.states.items i d);
}

use Rattle.std.proofs.Common.{ℕ, ◌+◌, ◌<◌, ◌≤◌, None, All, AllPairs, slice_index_or}
use Rattle.lane_order.specs.Listed.{IsPlacedBefore, IsLaneFrom}
use Rattle.lane_order.proofs.lane_list.LaneList.fill.Given as goal

-- the lanes from the sites so far
abbrev pub invariant-loop-site : goal.invariant-loop-site
invariant-loop-site l = record {
  known : All (λ lane. lane.site < l.site) l.self.lanes;
  ascending : AllPairs IsPlacedBefore l.self.lanes;
  each : (k : ℕ) → k < l.site → IsLaneFrom k (slice_index_or l.lanes k None) l.self.lanes;
  spare : l.fn.self.spare ≤ l.self.spare + l.site;
}

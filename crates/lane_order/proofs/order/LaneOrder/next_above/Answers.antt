use Rattle.std.proofs.Common.{ℕ, List, leb, find, nat_lt, slice_get, sym, ap, ◌∙◌, rules}
use Rattle.std.proofs.lemmas.List.Sorted.{IsPartitionPoint-from_clause, IsPartitionedBy-leb}
use Rattle.lane_order.proofs.Above.{rank_is}
use Rattle.lane_order.proofs.order.LaneOrder.next_above.Goals as goal

pub returns : goal.returns
returns c =
    let lanes = c.lanes.result.now in
    let order = c.args.self.now in
    let parted = IsPartitionedBy-leb (λ lane. lane.cost) lanes c.args.cost c.lanes.ensures.rising in
    let point = IsPartitionPoint-from_clause (λ lane. leb lane.cost c.args.cost) _ _ c.partition_point-rank.ensures.partitioned parted (λ a r q k. search rules) in
    c.lane_at.ensures
    ∙ ap (λ (ls : List (ℕ × ℕ)). slice_get ls c.partition_point-rank.result) (sym c.lanes.ensures.exact)
    ∙ rank_is order.sites lanes c.args.cost c.partition_point-rank.result point.0 point.1 c.partition_point-rank.ensures.bound
    ∙ ap (λ (ls : List (ℕ × ℕ)). find (λ lane. nat_lt c.args.cost lane.0) ls) c.lanes.ensures.exact

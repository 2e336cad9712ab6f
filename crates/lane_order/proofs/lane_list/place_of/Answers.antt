use Rattle.std.proofs.Common.{rules}
use Rattle.std.proofs.lemmas.List.Sorted.{IsPartitionPoint-from_clause}
use Rattle.lane_order.specs.Listed.{is_placed_before}
use Rattle.lane_order.proofs.Placing.{parted, point_of}
use Rattle.lane_order.proofs.lane_list.place_of.Goals as goal

pub returns-clause-parted : goal.returns-clause-parted
returns-clause-parted c =
    let point = IsPartitionPoint-from_clause (λ other. is_placed_before other c.args.lane) _ _ c.partition_point.ensures.partitioned (parted c.args.lanes.now c.requires c.args.lane) (λ a r q k. search rules) in
    point_of c.args.lanes.now c.requires c.args.lane c.partition_point.result point

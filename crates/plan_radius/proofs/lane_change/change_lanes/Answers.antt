use Rattle.plan_radius.proofs.LaneChanges.{row_part, row_first}
use Rattle.plan_radius.proofs.lane_change.change_lanes.Goals as goal

pub loop-site-preserved : goal.loop-site-preserved
loop-site-preserved c =
    let old = c.args.inst.now in
    let now = c.loop-site.inst in
    record {
      part = row_part c.args.change old now c.loop-site.invariant.part c.loop-site.site c.change_row.new.inst c.change_row.ensures.part c.change_row.ensures.row;
      first = row_first c.args.change old now c.loop-site.invariant.part c.loop-site.site c.change_row.new.inst c.change_row.ensures.part c.change_row.ensures.row c.loop-site.invariant.first;
    }

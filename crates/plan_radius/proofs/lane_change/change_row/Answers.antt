use Rattle.std.proofs.Common.{◌≡◌, ap, ◌∙◌}
use Rattle.location_terms.specs.Instance.{lane, site_at, customer_at}
use Rattle.plan_radius.specs.Changing.{lane_changed}
use Rattle.plan_radius.proofs.LaneChanges.{set_part, set_first}
use Rattle.plan_radius.proofs.lane_change.change_row.Goals as goal

pub loop-cust-preserved : goal.loop-cust-preserved
loop-cust-preserved c =
    let old = c.args.inst.now in
    let now = c.loop-cust.inst in
    let becomes : c.changed-lane.result ≡ lane_changed c.args.change (lane now (site_at now c.args.site).id (customer_at now c.loop-cust.cust).id) = c.changed-lane.ensures.exact ∙ ap (lane_changed c.args.change) c.lane.ensures.exact in
    record {
      part = set_part c.args.change old now c.loop-cust.invariant.part c.args.site c.loop-cust.cust c.changed-lane.result becomes c.set_lane.new.self c.set_lane.ensures;
      first = set_first c.args.change old now c.loop-cust.invariant.part c.args.site c.loop-cust.cust c.changed-lane.result becomes c.set_lane.new.self c.set_lane.ensures c.loop-cust.invariant.first;
    }

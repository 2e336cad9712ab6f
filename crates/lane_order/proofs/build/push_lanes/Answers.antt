use Rattle.std.proofs.Common.{None, Some, sym, ap, ◌∙◌}
use Rattle.std.proofs.lemmas.List.{append-nil}
use Rattle.lane_order.proofs.Gathered.{no_lanes, more_lanes}
use Rattle.lane_order.proofs.build.push_lanes.Goals as goal
use Rattle.lane_order.proofs.build.push_lanes.Goals.{in-Some+in_ok-push, in_default}

pub loop-site-init : goal.loop-site-init
loop-site-init c = no_lanes c.args.lanes.now.items c.args.inst.now c.args.cust

pub loop-site-preserved : goal.loop-site-preserved
loop-site-preserved c =
    let I = c.args.inst.now in
    let old = c.args.lanes.now.items in
    elim c.match-lane.branch [
      | in-Some+in_ok-push w ↦
          more_lanes I c.args.cust c.loop-site.site old c.loop-site.lanes.items c.match-lane.lanes.items (Some w.in-Some.cost) (sym w.in-Some.is ∙ c.lane.ensures.exact) c.loop-site.invariant
          (ap (λ v. v.items) w.lanes-is ∙ w.in_ok-push.ensures.items)
      | in_default w ↦
          more_lanes I c.args.cust c.loop-site.site old c.loop-site.lanes.items c.match-lane.lanes.items None (sym w.in_default.is ∙ c.lane.ensures.exact) c.loop-site.invariant
          (ap (λ v. v.items) w.lanes-is ∙ sym (append-nil c.loop-site.lanes.items))
    ]

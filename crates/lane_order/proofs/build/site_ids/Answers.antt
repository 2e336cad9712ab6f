use Rattle.std.proofs.Common.{◌∙◌, arith}
use Rattle.lane_order.proofs.Gathered.{one_more_id}
use Rattle.lane_order.proofs.build.site_ids.Goals as goal

pub loop-site-preserved : goal.loop-site-preserved
loop-site-preserved c = c.in_ok-push.ensures.items ∙ one_more_id c.args.inst.now c.loop-site.site c.loop-site.ids.items c.site_id.result (omega arith) c.loop-site.invariant c.site_id.ensures

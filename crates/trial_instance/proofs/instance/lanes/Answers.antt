use Rattle.std.proofs.Common.{◌∙◌}
use Rattle.trial_instance.proofs.Rows.{lanes_step}
use Rattle.trial_instance.proofs.instance.lanes.Goals as goal

pub loop-cust-preserved : goal.loop-cust-preserved
loop-cust-preserved c = lanes_step c.args.site c.args.custs.now c.loop-cust.cust-index _ c.from.result _ _ c.loop-cust-test.true c.loop-cust.invariant (c.from.ensures ∙ c.distance-units.ensures.exact) c.in_ok-push.ensures.pushed

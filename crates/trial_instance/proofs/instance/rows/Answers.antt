use Rattle.trial_instance.proofs.Rows.{rows_step}
use Rattle.trial_instance.proofs.instance.rows.Goals as goal

pub loop-site-preserved : goal.loop-site-preserved
loop-site-preserved c =
    rows_step c.args.custs.now c.args.sites.now c.loop-site.site-index _ c.from-fixed.result c.in_ok-lanes.lanes _ _ c.loop-site-test.true c.loop-site.invariant c.from-fixed.ensures c.in_ok-lanes.ensures c.in_ok-push.ensures.items

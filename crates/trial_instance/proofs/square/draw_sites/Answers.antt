use Rattle.trial_instance.proofs.DrawSteps.{no_draws, sites_step, sites_state}
use Rattle.trial_instance.proofs.square.draw_sites.Goals as goal

pub loop-init : goal.loop-init
loop-init c = (c.in_ok-sites.ensures.items, no_draws c.args.draws.now.state)

pub loop-preserved : goal.loop-preserved
loop-preserved c = (
  sites_step c.args.draws.now.state c.loop.counter _ _ _ _ c.loop.invariant.0 c.loop.invariant.1 c.drawn.ensures.site c.in_ok-push.ensures.items,
  sites_state c.args.draws.now.state c.loop.counter _ _ c.loop.invariant.1 c.drawn.ensures.state,
)

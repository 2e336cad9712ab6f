use Rattle.trial_instance.proofs.DrawSteps.{no_draws, customers_step, customers_state}
use Rattle.trial_instance.proofs.square.draw_customers.Goals as goal

pub loop-init : goal.loop-init
loop-init c = (c.in_ok-customers.ensures.items, no_draws c.args.draws.state)

pub loop-preserved : goal.loop-preserved
loop-preserved c = (
  customers_step c.args.draws.state c.loop.counter _ _ _ _ c.loop.invariant.0 c.loop.invariant.1 c.drawn.ensures.place c.in_ok-push.ensures.items,
  customers_state c.args.draws.state c.loop.counter _ _ c.loop.invariant.1 c.drawn.ensures.state,
)

use Rattle.std.proofs.Common.{◌∙◌, ap}
use Rattle.trial_instance.specs.Draws.{next_state}
use Rattle.trial_instance.proofs.DrawSteps.{after_two, place_drawn}
use Rattle.trial_instance.proofs.square.Place.drawn.Goals as goal

pub returns-clause-place : goal.returns-clause-place
returns-clause-place c = rw (c.below_thousand-y.ensures.drawn, c.below_thousand-x.ensures.drawn, c.below_thousand-x.ensures.state) (place_drawn c.args.draws.now.state)

pub returns-clause-state : goal.returns-clause-state
returns-clause-state c = c.below_thousand-y.ensures.state ∙ ap next_state c.below_thousand-x.ensures.state ∙ after_two c.args.draws.now.state

use Rattle.std.proofs.Common.{◌∙◌, ap}
use Rattle.trial_instance.specs.Draws.{next_state}
use Rattle.trial_instance.proofs.DrawSteps.{after_three, site_drawn}
use Rattle.trial_instance.proofs.square.PlacedSite.drawn.Goals as goal

pub returns-clause-site : goal.returns-clause-site
returns-clause-site c = rw (c.below_thousand-opening.ensures.drawn, c.drawn-place.ensures.place, c.drawn-place.ensures.state) (site_drawn c.args.draws.now.state)

pub returns-clause-state : goal.returns-clause-state
returns-clause-state c = c.below_thousand-opening.ensures.state ∙ ap next_state c.drawn-place.ensures.state ∙ after_three c.args.draws.now.state

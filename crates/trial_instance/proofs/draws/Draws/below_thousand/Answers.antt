use Rattle.trial_instance.proofs.DrawSteps.{first_draw}
use Rattle.trial_instance.proofs.draws.Draws.below_thousand.Goals as goal

pub returns-clause-drawn : goal.returns-clause-drawn
returns-clause-drawn c = first_draw c.args.self.now.state c.from.result c.from.ensures

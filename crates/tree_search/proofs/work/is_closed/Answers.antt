use Rattle.tree_search.proofs.Going.{closes_at, at_closes}
use Rattle.tree_search.proofs.work.is_closed.Goals as goal

pub returns : goal.returns
returns c = (λ yes. closes_at c.args.boxed.now c.args.search.now c.requires (c.closes.ensures.0 yes), λ closed. c.closes.ensures.1 (at_closes c.args.boxed.now c.args.search.now c.requires closed))

-- What the leaf whose box has the plan shows of it.
use Rattle.location_terms.proofs.LowEnds.{shows_low_end, shows_impossible, shows_low}
use Rattle.location_terms.proofs.trees.tree_shows.Goals as goal

pub returns-clause-low_end : goal.returns-clause-low_end
returns-clause-low_end c I t T valid closed = shows_low_end I valid t T closed

pub returns-clause-impossible : goal.returns-clause-impossible
returns-clause-impossible c I t valid closed = shows_impossible I valid t closed

pub returns-clause-low : goal.returns-clause-low
returns-clause-low c I t valid duals rays = shows_low I valid t duals rays

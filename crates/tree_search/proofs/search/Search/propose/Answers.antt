use Rattle.std.proofs.Common.{refl}
use Rattle.tree_search.proofs.Going.{order_in, makes_in, goes_same, goes_with}
use Rattle.tree_search.proofs.search.Search.propose.Goals as goal

pub returns-then-not-is_fit : goal.returns-then-not-is_fit
returns-then-not-is_fit c = goes_same c.args.boxed.now c.args.self.now c.args.self.now c.requires refl

pub take-requires-clause-order : goal.take-requires-clause-order
take-requires-clause-order c = order_in c.args.boxed.now.instance c.args.self.now c.requires.instance c.self.inside.order.now c.self.inside.incumbent c.self.inside.leaf c.self.inside.bounds c.self.invariant c.self.view_is

pub take-requires-clause-making : goal.take-requires-clause-making
take-requires-clause-making c = makes_in c.args.boxed.now c.args.self.now c.requires c.self.inside.incumbent c.self.inside.leaf c.self.view_is

pub returns : goal.returns
returns c = goes_with c.args.boxed.now c.args.self.now c.requires c.self.inside.incumbent c.self.inside.leaf c.self.view_is c.take.new.self c.take.ensures.stays

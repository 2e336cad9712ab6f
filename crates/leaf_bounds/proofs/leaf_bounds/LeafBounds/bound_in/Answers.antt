use Rattle.std.proofs.Common.{◌∙◌}
use Rattle.leaf_bounds.proofs.Slacks.{bound_by_prices}
use Rattle.leaf_bounds.proofs.leaf_bounds.LeafBounds.bound_in.Goals as goal

pub returns-in-Prices-clause-exact : goal.returns-in-Prices-clause-exact
returns-in-Prices-clause-exact c =
    bound_by_prices c.self.inside.by_prices c.args.self.now c.path.result.now c.args.boxed.now.path c.args.duals.now c.bound.result c.form.result c.form.ensures c.in-Prices.is (c.self.invariant.0 ∙ c.self.view_is) c.path.ensures c.bound.ensures.exact c.bound.ensures.small

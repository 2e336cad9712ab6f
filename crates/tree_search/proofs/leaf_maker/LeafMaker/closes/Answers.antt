use Rattle.tree_search.proofs.Leaves.{scale_fits_in}
use Rattle.tree_search.proofs.leaf_maker.LeafMaker.closes.Goals as goal

pub closes-requires : goal.closes-requires
closes-requires c = (scale_fits_in c.self.inside c.args.self.now c.q.result c.duals.result.now c.self.invariant c.self.view_is c.q.ensures c.duals.ensures).1

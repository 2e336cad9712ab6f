use Rattle.branch_tree.proofs.Growing.{kept_nodes}
use Rattle.branch_tree.proofs.growth.Growth.nodes.Goals as goal

pub returns : goal.returns
returns c = kept_nodes c.self.invariant c.args.self.now c.self.view_is

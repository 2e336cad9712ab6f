use Rattle.branch_tree.proofs.Growing.{set_kept, set_seen}
use Rattle.branch_tree.proofs.growth.Growth.set_duals.Goals as goal

pub invariant_of-self : goal.invariant_of-self
invariant_of-self c = set_kept c.self.invariant c.args.self.now c.self.view_is c.requires.left c.args.duals c.requires.lists

pub returns : goal.returns
returns c = set_seen c.self.invariant c.args.self.now c.self.view_is c.requires.left c.args.duals c.requires.lists

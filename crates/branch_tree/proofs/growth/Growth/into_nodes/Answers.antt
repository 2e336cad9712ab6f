use Rattle.branch_tree.proofs.Growing.{done_nodes, done_sound}
use Rattle.branch_tree.proofs.growth.Growth.into_nodes.Goals as goal

pub returns-clause-nodes : goal.returns-clause-nodes
returns-clause-nodes c = done_nodes c.self.invariant c.args.self c.self.view_is c.requires

pub returns-clause-sound : goal.returns-clause-sound
returns-clause-sound c = done_sound c.self.invariant c.args.self c.self.view_is c.requires

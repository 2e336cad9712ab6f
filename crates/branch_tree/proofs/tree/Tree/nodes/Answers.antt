use Rattle.std.proofs.Common.{arith, ap, subst}
use Rattle.location_terms.specs.Tree.{IsTree, nodes_of}
use Rattle.branch_tree.proofs.Stored.{stored_size, stored_tree}
use Rattle.branch_tree.proofs.tree.Tree.nodes.Goals as goal

pub returns-clause-count : goal.returns-clause-count
returns-clause-count c = omega (arith, stored_size c.self.invariant, ap nodes_of c.self.view_is)

pub returns-clause-tree : goal.returns-clause-tree
returns-clause-tree c = subst IsTree c.self.view_is (stored_tree c.self.invariant)

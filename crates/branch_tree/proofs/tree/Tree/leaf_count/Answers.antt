use Rattle.std.proofs.Common.{arith, ap, length}
use Rattle.location_terms.specs.Tree.{leaves_of}
use Rattle.branch_tree.proofs.Stored.{stored_leaves}
use Rattle.branch_tree.proofs.tree.Tree.leaf_count.Goals as goal

pub returns : goal.returns
returns c = omega (arith, stored_leaves c.self.invariant, ap (λ t. length (leaves_of t)) c.self.view_is)

use Rattle.branch_tree.proofs.Stored.{leaf_stored, leaf_seen}
use Rattle.branch_tree.proofs.tree.Tree.leaf.Goals as goal

pub invariant_of-result : goal.invariant_of-result
invariant_of-result c = leaf_stored _ _ _ _ _ c.requires c.in_ok-sites.ensures c.in_ok-customers.ensures c.in_ok-nodes.ensures

pub returns : goal.returns
returns c = leaf_seen c.args.inst.now _ _ _ _ c.in_ok-sites.ensures c.in_ok-customers.ensures c.in_ok-nodes.ensures

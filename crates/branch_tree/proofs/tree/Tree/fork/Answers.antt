use Rattle.branch_tree.proofs.Stored.{joined_stored, joined_seen}
use Rattle.branch_tree.proofs.tree.Tree.fork.Goals as goal

pub invariant_of-result : goal.invariant_of-result
invariant_of-result c = joined_stored c.args.split _ c.first.invariant c.second.invariant c.in_ok-nodes.ensures c.args.first c.args.second c.first.view_is c.second.view_is c.requires.sites c.requires.customers c.requires.split c.requires.few

pub returns : goal.returns
returns c = joined_seen c.args.split _ c.first.invariant c.second.invariant c.in_ok-nodes.ensures c.args.first c.args.second c.first.view_is c.second.view_is

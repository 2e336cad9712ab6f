use Rattle.certificate_text.proofs.Nodes.{split_added}
use Rattle.certificate_text.proofs.write.push_node.Goals as goal

pub returns-in-None : goal.returns-in-None
returns-in-None c = split_added c.push_split.result c.args.tree.now.sites _ _ c.args.tree.now.root c.args.at _ c.node.ensures c.in-None.ensures c.push_split.ensures

use Rattle.tree_search.proofs.Started.{started}
use Rattle.tree_rows.proofs.searches.searched.Goals as goal

pub grow-requires-clause-start : goal.grow-requires-clause-start
grow-requires-clause-start g c = started c.args.inst.now c.args.budget _ c.requires c.in_ok-tree.ensures

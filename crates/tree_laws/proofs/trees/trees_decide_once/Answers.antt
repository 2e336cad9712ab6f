use Rattle.tree_laws.proofs.Once.{leaf_once, carried_once, grown_once}
use Rattle.tree_laws.proofs.trees.trees_decide_once.Goals as goal

pub returns-clause-leaf : goal.returns-clause-leaf
returns-clause-leaf c = leaf_once

pub returns-clause-carried : goal.returns-clause-carried
returns-clause-carried c = carried_once

pub returns-clause-grown : goal.returns-clause-grown
returns-clause-grown c = grown_once

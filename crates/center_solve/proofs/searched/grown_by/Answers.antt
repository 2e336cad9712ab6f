use Rattle.std.proofs.Common.{None, subst}
use Rattle.tree_search.specs.Answer.{IsAnswerTo}
use Rattle.tree_search.proofs.Started.{started}
use Rattle.center_solve.proofs.searched.grown_by.Goals as goal

pub grow-requires-clause-start : goal.grow-requires-clause-start
grow-requires-clause-start g c = started c.args.inst.now c.args.budget _ c.requires.within c.in_ok-tree.ensures

pub returns : goal.returns
returns g c = subst (λ t. IsAnswerTo c.args.inst.now t None c.args.budget c.in_ok-answer.answer) c.in_ok-tree.ensures c.in_ok-answer.ensures

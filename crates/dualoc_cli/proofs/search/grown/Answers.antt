use Rattle.tree_search.specs.Answer.{certificate_in}
use Rattle.std.proofs.Common.{refl}
use Rattle.dualoc_cli.proofs.Searching.{start, found, feasible_plan}
use Rattle.dualoc_cli.proofs.search.grown.Goals as goal

pub grow-requires-clause-start : goal.grow-requires-clause-start
grow-requires-clause-start g c = start c.args.inst.now c.args.budget c.requires.within _ c.in_ok-tree.ensures

pub returns-clause-found : goal.returns-clause-found
returns-clause-found g c =
    found c.args.inst.now c.sites-places.ensures.valid c.args.budget c.requires.within _ c.in_ok-tree.ensures c.in_ok-answer.answer c.in_ok-answer.ensures (certificate_in c.args.inst.now c.in_ok-answer.answer) refl

pub returns-clause-feasible : goal.returns-clause-feasible
returns-clause-feasible g c = feasible_plan c.args.inst.now _ _ c.args.budget c.in_ok-answer.answer c.in_ok-answer.ensures

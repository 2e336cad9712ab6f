use Rattle.plan_search.proofs.Seen.{seen_feasible, seen_in_box, seen_best}
use Rattle.plan_search.proofs.seeking.packed_in.Goals as goal

pub returns-clause-feasible : goal.returns-clause-feasible
returns-clause-feasible c = seen_feasible c.args.boxed.now.instance c.args.boxed.now.path c.args.hint.now c.in_ok-plan.ensures.valid c.in_ok-plan.plan c.in_ok-plan.ensures.exact

pub returns-clause-in_box : goal.returns-clause-in_box
returns-clause-in_box c = seen_in_box c.args.boxed.now.instance c.args.boxed.now.path c.args.hint.now c.in_ok-plan.ensures.valid c.requires.path c.in_ok-plan.plan c.in_ok-plan.ensures.exact

pub returns-clause-cheapest : goal.returns-clause-cheapest
returns-clause-cheapest c = λ no_caps settled. seen_best c.args.boxed.now.instance c.args.boxed.now.path c.args.hint.now c.in_ok-plan.ensures.valid c.requires.path no_caps settled c.in_ok-plan.plan c.in_ok-plan.ensures.exact

use Rattle.plan_search.proofs.Seen.{best_stays}
use Rattle.plan_search.proofs.seeking.best_in.Goals as goal

pub returns-clause-cheapest : goal.returns-clause-cheapest
returns-clause-cheapest c = λ no_caps settled.
    best_stays c.args.boxed.now.instance c.args.boxed.now.path c.in_ok-packed.packed c.cheaper.result (c.in_ok-packed.ensures.cheapest no_caps settled)
    c.cheaper.ensures.feasible c.cheaper.ensures.in_box c.cheaper.ensures.no_worse

use Rattle.dual_adjust.proofs.Gained.{risen_from}
use Rattle.dual_adjust.proofs.trials.rise_again.Goals as goal

pub returns-clause-risen : goal.returns-clause-risen
returns-clause-risen c =
    let f = c.ascend_others_in.ensures in
    let e = c.ascend_in.ensures in
    risen_from c.args.boxed.now.instance c.args.boxed.now.path _ _ f.keeps.tame e.ascended e.keeps e.blocked e.slacks e.work

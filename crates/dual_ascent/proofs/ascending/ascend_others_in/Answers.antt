use Rattle.dual_ascent.proofs.Results.{apart_keeps, apart_stays, apart_is_blocked}
use Rattle.dual_ascent.proofs.ascending.ascend_others_in.Goals as goal

pub returns-clause-keeps : goal.returns-clause-keeps
returns-clause-keeps c = apart_keeps c.args.boxed.now.instance c.args.boxed.now.path c.ascend_over.ensures.valid c.args.duals.now c.requires.tame c.args.apart c.ascend_over.new.duals c.ascend_over.ensures.ascended

pub returns-clause-stays : goal.returns-clause-stays
returns-clause-stays c = apart_stays c.args.boxed.now.instance c.args.boxed.now.path c.ascend_over.ensures.valid c.args.duals.now c.requires.tame c.args.apart c.ascend_over.new.duals c.ascend_over.ensures.ascended

pub returns-clause-blocked : goal.returns-clause-blocked
returns-clause-blocked c = apart_is_blocked c.args.boxed.now.instance c.args.boxed.now.path c.ascend_over.ensures.valid c.args.duals.now c.requires.tame c.args.apart c.ascend_over.new.duals c.ascend_over.ensures.ascended

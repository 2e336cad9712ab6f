use Rattle.dual_ascent.proofs.Climbed.{over_all}
use Rattle.dual_ascent.proofs.Results.{ascended_keeps, ascended_is_blocked}
use Rattle.dual_ascent.proofs.ascending.ascend_in.Goals as goal

pub returns-clause-ascended : goal.returns-clause-ascended
returns-clause-ascended c = over_all c.args.boxed.now.instance c.args.boxed.now.path c.args.duals.now c.ascend_over.new.duals c.ascend_over.ensures.ascended

pub returns-clause-keeps : goal.returns-clause-keeps
returns-clause-keeps c = ascended_keeps c.args.boxed.now.instance c.args.boxed.now.path c.ascend_over.ensures.valid c.args.duals.now c.requires.tame c.ascend_over.new.duals (over_all c.args.boxed.now.instance c.args.boxed.now.path c.args.duals.now c.ascend_over.new.duals c.ascend_over.ensures.ascended)

pub returns-clause-blocked : goal.returns-clause-blocked
returns-clause-blocked c = ascended_is_blocked c.args.boxed.now.instance c.args.boxed.now.path c.ascend_over.ensures.valid c.args.duals.now c.requires.tame c.ascend_over.new.duals (over_all c.args.boxed.now.instance c.args.boxed.now.path c.args.duals.now c.ascend_over.new.duals c.ascend_over.ensures.ascended)

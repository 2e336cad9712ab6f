use Rattle.std.proofs.Common.{map, string_bytes, sym}
use Rattle.dualoc_cli.specs.Step.{asked}
use Rattle.dualoc_cli.proofs.Commands.{sound}
use Rattle.dualoc_cli.proofs.Spanning.{none_replied, none_kept, some_replied, some_halted, some_kept}
use Rattle.dualoc_cli.proofs.task.reply_to.Goals as goal

pub answer-requires : goal.answer-requires
answer-requires g c = sound (map string_bytes c.args.words.now) (asked c.in-Some.command) (sym c.in-Some.ensures)

pub returns-in-None-clause-replied : goal.returns-in-None-clause-replied
returns-in-None-clause-replied g c = none_replied (map string_bytes c.args.words.now) _ c.in-None.ensures

pub returns-in-None-clause-keeps : goal.returns-in-None-clause-keeps
returns-in-None-clause-keeps g c = none_kept (map string_bytes c.args.words.now) _ c.in-None.ensures

pub returns-in-Some-clause-replied : goal.returns-in-Some-clause-replied
returns-in-Some-clause-replied g c = some_replied (map string_bytes c.args.words.now) (asked c.in-Some.command) _ _ c.in-Some.ensures c.answer.result c.answer.ensures.replied

pub returns-in-Some-clause-halted : goal.returns-in-Some-clause-halted
returns-in-Some-clause-halted g c = some_halted (map string_bytes c.args.words.now) (asked c.in-Some.command) _ _ c.in-Some.ensures c.answer.result c.answer.ensures.halted

pub returns-in-Some-clause-keeps : goal.returns-in-Some-clause-keeps
returns-in-Some-clause-keeps g c = some_kept (map string_bytes c.args.words.now) (asked c.in-Some.command) _ _ c.in-Some.ensures c.answer.ensures.keeps

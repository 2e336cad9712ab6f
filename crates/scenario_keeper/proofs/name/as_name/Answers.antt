use Rattle.std.proofs.Common.{sym}
use Rattle.scenario_keeper.proofs.NameTexts.{name_text}
use Rattle.scenario_keeper.proofs.name.as_name.Goals as goal

pub returns-in-Err : goal.returns-in-Err
returns-in-Err c = absurd (c.in-Err.ensures.cases.0 (name_text c.args.word.now (sym c.if-not-is_name.ensures)))

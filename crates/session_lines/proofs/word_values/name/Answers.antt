use Rattle.session_lines.proofs.Words.{named, unnamed}
use Rattle.session_lines.proofs.word_values.name.Goals as goal

pub returns-in-Ok : goal.returns-in-Ok
returns-in-Ok c = named _ _ c.in-Ok.ensures.cases.0 c.in-Ok.ensures.cases.1

pub returns-in-Err : goal.returns-in-Err
returns-in-Err c = unnamed _ c.in-Err.ensures.cases.0

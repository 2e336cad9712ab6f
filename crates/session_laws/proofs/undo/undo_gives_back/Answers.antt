use Rattle.session_laws.proofs.States.{undone}
use Rattle.session_laws.proofs.undo.undo_gives_back.Goals as goal

pub returns-clause-state : goal.returns-clause-state
returns-clause-state c = undone

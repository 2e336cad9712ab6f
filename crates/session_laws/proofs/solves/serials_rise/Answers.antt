use Rattle.session_laws.proofs.States.{undone_counted, solved_counted}
use Rattle.session_laws.proofs.Steps.{step_counted, run_counted}
use Rattle.session_laws.proofs.solves.serials_rise.Goals as goal

pub returns-clause-undone : goal.returns-clause-undone
returns-clause-undone c = undone_counted

pub returns-clause-solved : goal.returns-clause-solved
returns-clause-solved c state claim tree plan counted = solved_counted state claim tree plan counted

pub returns-clause-stepped : goal.returns-clause-stepped
returns-clause-stepped c = step_counted

pub returns-clause-run : goal.returns-clause-run
returns-clause-run c = run_counted

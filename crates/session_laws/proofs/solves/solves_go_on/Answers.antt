use Rattle.session_laws.proofs.GoingOn.{solves_rise}
use Rattle.session_laws.proofs.solves.solves_go_on.Goals as goal

pub returns : goal.returns
returns c I state first second low made plan tree later_low later_made later_plan later_tree valid counted small is goes_on =
    solves_rise I state first second low made plan tree later_low later_made later_plan later_tree valid counted small is goes_on

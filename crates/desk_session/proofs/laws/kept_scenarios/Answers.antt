use Rattle.desk_session.proofs.Keeping.{takes_up}
use Rattle.desk_session.proofs.Reloads.{loads_again, same_instance}
use Rattle.desk_session.proofs.laws.kept_scenarios.Goals as goal

pub returns : goal.returns
returns c = record { loaded = loads_again; steps = takes_up; instance = same_instance }

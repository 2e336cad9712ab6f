use Rattle.desk_session.proofs.Loads.{leads_to}
use Rattle.desk_session.proofs.laws.loaded_scenarios.Goals as goal

pub returns : goal.returns
returns c = leads_to

use Rattle.std.proofs.Common.{arith}
use Rattle.desk_session.proofs.Loadable.{stays}
use Rattle.desk_session.proofs.laws.desks_can_be_loaded.Goals as goal

pub returns : goal.returns
returns c = record { begun = λ I valid. record { valid = valid; few = omega arith }; stays = stays }

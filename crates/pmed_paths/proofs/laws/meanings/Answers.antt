use Rattle.pmed_paths.proofs.Meant.{valid-meant}
use Rattle.pmed_paths.proofs.laws.meanings.Goals as goal

pub returns : goal.returns
returns c = record { valid = valid-meant }

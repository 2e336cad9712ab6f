use Rattle.instance_text.proofs.Meant.{valid-meant}
use Rattle.instance_text.proofs.laws.meanings.Goals as goal

pub returns : goal.returns
returns c = record { valid = valid-meant }

-- What was read is within the limits, and so is its instance.
use Rattle.orlib_read.proofs.Meant.{valid-meant}
use Rattle.orlib_read.proofs.laws.meanings.Goals as goal

pub returns : goal.returns
returns c = record { valid = valid-meant }

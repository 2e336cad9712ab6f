use Rattle.instance_forms.proofs.Meant.{valid-meant, file_small}
use Rattle.instance_forms.proofs.laws.meanings.Goals as goal

pub returns-clause-valid : goal.returns-clause-valid
returns-clause-valid c = valid-meant

pub returns-clause-given : goal.returns-clause-given
returns-clause-given c = file_small

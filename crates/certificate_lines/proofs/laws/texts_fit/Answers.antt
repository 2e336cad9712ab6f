use Rattle.certificate_lines.proofs.Lengths.{short_text}
use Rattle.certificate_lines.proofs.Once.{few_where_once}
use Rattle.certificate_lines.proofs.laws.texts_fit.Goals as goal

pub returns-clause-within : goal.returns-clause-within
returns-clause-within c = short_text

pub returns-clause-few : goal.returns-clause-few
returns-clause-few c = few_where_once

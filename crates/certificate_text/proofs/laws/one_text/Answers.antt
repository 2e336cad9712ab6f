use Rattle.certificate_text.proofs.OneText.{alike, faultless}
use Rattle.certificate_text.proofs.laws.one_text.Goals as goal

pub returns-clause-one : goal.returns-clause-one
returns-clause-one c = alike

pub returns-clause-faultless : goal.returns-clause-faultless
returns-clause-faultless c = faultless

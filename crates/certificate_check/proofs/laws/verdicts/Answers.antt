-- What the lines lead to, and what they show.
use Rattle.certificate_lines.specs.declared.limits.TheConstants.{MAX_CERTIFICATE_BYTES}
use Rattle.certificate_check.proofs.Always.{some_verdict, some_answer}
use Rattle.certificate_check.proofs.Decided.{answer_decided}
use Rattle.certificate_check.proofs.Meaning.{yes_means, yes_means_within, yes_holds, accepted_yes, accepted_yes_within}
use Rattle.certificate_check.proofs.One.{one_verdict, one_answer}
use Rattle.certificate_check.proofs.laws.verdicts.Goals as goal

pub returns-clause-some : goal.returns-clause-some
returns-clause-some c = some_verdict

pub returns-clause-some_within : goal.returns-clause-some_within
returns-clause-some_within c = some_answer

pub returns-clause-decided : goal.returns-clause-decided
returns-clause-decided c = answer_decided

pub returns-clause-one : goal.returns-clause-one
returns-clause-one c = one_verdict

pub returns-clause-one_within : goal.returns-clause-one_within
returns-clause-one_within c = one_answer

pub returns-clause-yes : goal.returns-clause-yes
returns-clause-yes c = yes_means

pub returns-clause-holds : goal.returns-clause-holds
returns-clause-holds c = yes_holds

pub returns-clause-accepted : goal.returns-clause-accepted
returns-clause-accepted c = accepted_yes

pub returns-clause-yes_within : goal.returns-clause-yes_within
returns-clause-yes_within c = yes_means_within MAX_CERTIFICATE_BYTES

pub returns-clause-accepted_within : goal.returns-clause-accepted_within
returns-clause-accepted_within c = accepted_yes_within MAX_CERTIFICATE_BYTES

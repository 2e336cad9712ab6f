use Rattle.certificate_lines.specs.declared.limits.TheConstants.{MAX_CERTIFICATE_BYTES}
use Rattle.certificate_check.proofs.Answers.{yes_text, yes_claim, text_yes}
use Rattle.certificate_check.proofs.checker.check.Goals as goal

pub check_lines-requires : goal.check_lines-requires
check_lines-requires g c = record { start = (MAX_CERTIFICATE_BYTES, c.new-reader.ensures _ _ _) }

pub returns-clause-answer : goal.returns-clause-answer
returns-clause-answer g c = c.check_lines.ensures.answer MAX_CERTIFICATE_BYTES (c.new-reader.ensures _ _ _)

pub returns-clause-yes : goal.returns-clause-yes
returns-clause-yes g c = yes_text _ _ MAX_CERTIFICATE_BYTES c.args.inst.now _ c.sites-sites.ensures.valid (returns-clause-answer g c)

pub returns-clause-accepts : goal.returns-clause-accepts
returns-clause-accepts g c = text_yes _ _ MAX_CERTIFICATE_BYTES c.args.inst.now _ c.sites-sites.ensures.valid (returns-clause-answer g c)

pub returns-clause-holds : goal.returns-clause-holds
returns-clause-holds g c = yes_claim _ _ MAX_CERTIFICATE_BYTES c.args.inst.now _ c.sites-sites.ensures.valid (returns-clause-answer g c)

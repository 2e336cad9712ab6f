use Rattle.certificate_lines.specs.declared.limits.TheConstants.{MAX_CERTIFICATE_BYTES}
use Rattle.certificate_text.proofs.GivesBack.{gives_back}
use Rattle.certificate_text.proofs.Reading.{of_text, has_text, of_fault, of_too_long}
use Rattle.certificate_text.proofs.read.read_cert.Goals as goal

pub read_lines-requires : goal.read_lines-requires
read_lines-requires g c = record { start = (MAX_CERTIFICATE_BYTES, c.new-reader.ensures _ _ _) }

pub returns-clause-ok : goal.returns-clause-ok
returns-clause-ok g c = of_text _ _ MAX_CERTIFICATE_BYTES _ c.read_lines.result (c.read_lines.ensures.comes MAX_CERTIFICATE_BYTES (c.new-reader.ensures _ _ _))

pub returns-clause-has_text : goal.returns-clause-has_text
returns-clause-has_text g c = has_text _ _ MAX_CERTIFICATE_BYTES _ c.read_lines.result (c.read_lines.ensures.comes MAX_CERTIFICATE_BYTES (c.new-reader.ensures _ _ _))

pub returns-clause-fault : goal.returns-clause-fault
returns-clause-fault g c = of_fault _ _ MAX_CERTIFICATE_BYTES _ c.read_lines.result (c.read_lines.ensures.comes MAX_CERTIFICATE_BYTES (c.new-reader.ensures _ _ _))

pub returns-clause-too_long : goal.returns-clause-too_long
returns-clause-too_long g c = of_too_long _ _ MAX_CERTIFICATE_BYTES _ c.read_lines.result (c.read_lines.ensures.comes MAX_CERTIFICATE_BYTES (c.new-reader.ensures _ _ _))

pub returns-clause-gives_back : goal.returns-clause-gives_back
returns-clause-gives_back g c = gives_back _ _ MAX_CERTIFICATE_BYTES c.args.inst.now _ c.sites-sites.ensures.valid (c.read_lines.ensures.comes MAX_CERTIFICATE_BYTES (c.new-reader.ensures _ _ _))

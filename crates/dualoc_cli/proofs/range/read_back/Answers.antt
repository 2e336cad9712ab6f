use Rattle.std.specs.FinMap.{get}
use Rattle.shelf_port.specs.MemShelf.{files_of}
use Rattle.certificate_lines.specs.Text.{certificate_text}
use Rattle.certificate_text.specs.Cert.{certificate_of}
use Rattle.dualoc_cli.proofs.Proving.{text_back}
use Rattle.dualoc_cli.proofs.range.read_back.Goals as goal

pub returns-in-Ok-clause-text : goal.returns-in-Ok-clause-text
returns-in-Ok-clause-text c = text_back (get (files_of c.args.kept) c.args.name.now) (certificate_text c.args.inst.now (certificate_of c.in-Ok.cert)) c.in-Ok.ensures.ok

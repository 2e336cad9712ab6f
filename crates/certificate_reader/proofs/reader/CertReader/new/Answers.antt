use Rattle.std.proofs.Common.{refl}
use Rattle.certificate_reader.proofs.Passing.{behind_none}
use Rattle.certificate_reader.proofs.reader.CertReader.new.Goals as goal

pub returns : goal.returns
returns c = λ told name I. behind_none told name c.args.limit I _ c.requires.within c.new-lines.ensures.start refl refl

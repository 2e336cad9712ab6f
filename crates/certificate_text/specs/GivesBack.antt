-- That what was written is read back.
use Rattle.std.specs.Prelude.{◌≡◌, Result, Ok, Err}
use Rattle.location_terms.specs.Certificate.{Certificate}
use Rattle.certificate_lines.specs.declared.fault.CertFault.{CertFault}
use Rattle.certificate_lines.specs.declared.fault.CertFault.TheVariants.{Text, TooLong, ReadFailed, NoMemory}
use Rattle.certificate_text.specs.declared.certificate.Certificate.{Certificate as Held}
use Rattle.certificate_text.specs.Cert.{certificate_of}

-- the certificate is answered, where no read failed and there was memory
abbrev pub GivesBack : Certificate → Result Held CertFault → Type 0
GivesBack cert (Ok held) = certificate_of held ≡ cert
GivesBack cert (Err (Text kind line)) = ⊥
GivesBack cert (Err TooLong) = ⊥
GivesBack cert (Err ReadFailed) = Unit {0}
GivesBack cert (Err NoMemory) = Unit {0}

-- A certificate of the program as the definition.
use Rattle.std.specs.Option.{option_copied}
use Rattle.location_terms.specs.Certificate.{Certificate}
use Rattle.certificate_text.specs.declared.certificate.Certificate.{Certificate as Held}
use Rattle.certificate_text.specs.declared.certificate.CertificateRef.{CertificateRef}

abbrev pub certificate_of : Held → Certificate
certificate_of held = record { claim = held.claim; plan = held.plan; tree = held.tree }

-- one whose parts are lent
abbrev pub certificate_lent : CertificateRef → Certificate
certificate_lent lent = record { claim = lent.claim; plan = option_copied lent.plan; tree = lent.tree.now }

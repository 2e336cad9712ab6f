-- The names by which kinds of faults are printed.
use Rattle.std.specs.Prelude.{ℕ, List, codes}
use Rattle.certificate_lines.specs.declared.kind.CertKind.{CertKind}
use Rattle.certificate_lines.specs.declared.kind.CertKind.TheVariants.{Ended, BadLine, NotCanonical, OutOfRange, WrongSizes, UnknownId, WrongStatus, Trailing}

abbrev pub cert_kind_name : CertKind → List ℕ
cert_kind_name Ended = codes "Ended"
cert_kind_name BadLine = codes "BadLine"
cert_kind_name NotCanonical = codes "NotCanonical"
cert_kind_name OutOfRange = codes "OutOfRange"
cert_kind_name WrongSizes = codes "WrongSizes"
cert_kind_name UnknownId = codes "UnknownId"
cert_kind_name WrongStatus = codes "WrongStatus"
cert_kind_name Trailing = codes "Trailing"

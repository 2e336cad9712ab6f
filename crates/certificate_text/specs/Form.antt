-- What the bytes of a certificate come to where only their form is looked at.
use Rattle.std.specs.Prelude.{◌≡◌, ℕ, List, Err}
use Rattle.location_terms.specs.Instance.{Instance}
use Rattle.certificate_lines.specs.declared.fault.CertFault.TheVariants.{Text, TooLong}
use Rattle.certificate_lines.specs.declared.kind.CertKind.{CertKind}
use Rattle.certificate_reader.specs.Transcript.{transcript_within}

-- the text has this fault in this line
abbrev pub HasFault : ℕ → Instance → List ℕ → CertKind → ℕ → Type 0
HasFault limit I bytes kind line = (transcript_within limit I bytes).end ≡ Err (Text kind line)

-- the first bytes of the file, up to the limit, have no fault, and more follow
abbrev pub PassesLimit : ℕ → Instance → List ℕ → Type 0
PassesLimit limit I bytes = (transcript_within limit I bytes).end ≡ Err TooLong

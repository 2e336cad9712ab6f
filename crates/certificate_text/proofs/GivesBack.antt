-- That what was written is read back, since a text has one certificate and no fault.
use Rattle.std.proofs.Common.{◌≡◌, ℕ, ◌≤◌, List, length, sym, inl, inr, Option, Ok, Err}
use Rattle.std.specs.Prelude.{Result}
use Rattle.location_terms.specs.Instance.{Instance, IsValid}
use Rattle.location_terms.specs.Certificate.{Certificate}
use Rattle.shelf_port.specs.Files.{Files}
use Rattle.shelf_lines.specs.Rest.{TellsFile}
use Rattle.shelf_lines.proofs.Told.{of_bytes}
use Rattle.certificate_lines.specs.declared.fault.CertFault.{CertFault}
use Rattle.certificate_lines.specs.declared.fault.CertFault.TheVariants.{Text, TooLong, ReadFailed, NoMemory}
use Rattle.certificate_lines.specs.Text.{certificate_text}
use Rattle.certificate_lines.specs.Follow.{HasText}
use Rattle.certificate_reader.specs.Behind.{IsUnread}
use Rattle.certificate_reader.specs.Transcript.{transcript_within}
use Rattle.certificate_text.specs.declared.certificate.Certificate.{Certificate as Held}
use Rattle.certificate_text.specs.Cert.{certificate_of}
use Rattle.certificate_text.specs.Read.{Comes}
use Rattle.certificate_text.specs.GivesBack.{GivesBack}
use Rattle.certificate_text.proofs.OneText.{alike, no_fault}
use Rattle.certificate_text.proofs.Reading.{text_is_read, too_long_is_read}

unread : (cert : Certificate) (fault : CertFault) → IsUnread fault → GivesBack cert (Err fault)
unread cert (Text kind line) e = absurd (text_is_read kind line e)
unread cert TooLong e = absurd (too_long_is_read e)
unread cert ReadFailed e = tt
unread cert NoMemory e = tt

pub gives_back : (told : Option Files) (name : List ℕ) (limit : ℕ) (I : Instance) (r : Result Held CertFault) → IsValid I → Comes told name limit I r
    → (cert : Certificate) → HasText I cert → length (certificate_text I cert) ≤ limit → TellsFile told name (certificate_text I cert) → GivesBack cert r
gives_back told name limit I (Ok held) valid comes cert has within is =
    alike I (certificate_of held) cert valid comes.0 has (sym (of_bytes told name (certificate_text I cert) (λ bytes. bytes ≡ certificate_text I (certificate_of held)) is comes.1))
gives_back told name limit I (Err fault) valid (inl e) cert has within is = unread cert fault e
gives_back told name limit I (Err fault) valid (inr file) cert has within is =
    absurd (no_fault I cert limit fault valid has within (of_bytes told name (certificate_text I cert) (λ bytes. (transcript_within limit I bytes).end ≡ Err fault) is file))

-- The command `check`: the verdict on a certificate.
use Rattle.std.specs.Prelude.{◌≡◌, ◌⊎◌, ℕ, ◌≤◌, List, length}
use Rattle.shelf_port.specs.Files.{MayHold}
use Rattle.location_terms.specs.Instance.{Instance}
use Rattle.location_terms.specs.Optimal.{ClaimHolds}
use Rattle.location_terms.specs.Certificate.{Certificate, IsAccepted}
use Rattle.location_terms.specs.declared.claim.Claim.{Claim}
use Rattle.certificate_lines.specs.Text.{certificate_text}
use Rattle.certificate_lines.specs.Follow.{HasSmallCosts}
use Rattle.certificate_lines.specs.declared.limits.TheConstants.{MAX_CERTIFICATE_BYTES}
use Rattle.certificate_check.specs.Verdict.{Answer, IsAnswer}
use Rattle.dualoc_cli.specs.declared.status.Status.{Status}
use Rattle.dualoc_cli.specs.declared.status.Status.TheVariants.{Done, CheckNo}
use Rattle.dualoc_cli.specs.Command.{Check}
use Rattle.dualoc_cli.specs.Run.{Run, HasTask, FailsToRead}

-- the certificate is accepted, its costs are within their limit and its text is within the checker's: so a check of a file with that text says yes (`IsChecked`, below)
pub record DeservesYes (I : Instance) (cert : Certificate) : Type 0 where
  pub accepted : IsAccepted I cert
  pub small : HasSmallCosts cert.claim
  pub within : length (certificate_text I cert) ≤ MAX_CERTIFICATE_BYTES

-- the instance was read, and then a read of the certificate's file failed
pub record CertificateFails (r : Run) : Type 0 where
  pub instance : Instance
  pub name : List ℕ
  pub task : HasTask r (Check name) instance
  pub fails : FailsToRead r name

-- this is the checker's answer to what the certificate's file holds
pub record IsAnswered (r : Run) (answer : Answer) : Type 0 where
  pub instance : Instance
  pub name : List ℕ
  pub task : HasTask r (Check name) instance
  pub bytes : List ℕ
  pub held : MayHold r.before.shelf.files name bytes
  pub answered : IsAnswer MAX_CERTIFICATE_BYTES instance bytes answer

-- the certificate's file holds the text of an accepted certificate of this claim, and the claim holds
pub record IsConfirmed (r : Run) (claim : Claim) : Type 0 where
  pub instance : Instance
  pub name : List ℕ
  pub task : HasTask r (Check name) instance
  pub cert : Certificate
  pub held : MayHold r.before.shelf.files name (certificate_text instance cert)
  pub deserved : DeservesYes instance cert
  pub claims : cert.claim ≡ claim
  pub holds : ClaimHolds instance claim cert.plan

-- what is due for a check of the file of this name, where `ends` says that the run ends with the status that is due, or is hindered: yes where it holds the text of an accepted certificate, and else no, but for what follows behind the limit
pub record IsChecked (r : Run) (ends : Status → Type 0) (name : List ℕ) (I : Instance) (status : Status) : Type 0 where
  pub accepted : (cert : Certificate) → DeservesYes I cert → MayHold r.before.shelf.files name (certificate_text I cert) → ends Done
  pub otherwise : (bytes : List ℕ) → MayHold r.before.shelf.files name bytes → length bytes ≤ MAX_CERTIFICATE_BYTES → (status ≡ Done) ⊎ ends CheckNo

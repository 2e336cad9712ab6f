-- An answer that stands.
use Rattle.std.specs.Prelude.{◌≤◌, length}
use Rattle.location_terms.specs.Instance.{Instance}
use Rattle.location_terms.specs.Optimal.{ClaimHolds}
use Rattle.location_terms.specs.Certificate.{Certificate, IsAccepted}
use Rattle.certificate_lines.specs.Text.{certificate_text}
use Rattle.certificate_lines.specs.Follow.{HasSmallCosts}
use Rattle.certificate_lines.specs.declared.limits.TheConstants.{MAX_CERTIFICATE_BYTES}

-- The claim holds of the instance and of the plan that comes with it, and the checker says yes to the certificate's text: it is accepted, its costs are within their limit, and its text
-- is within the checker's.
pub record IsStanding (I : Instance) (cert : Certificate) : Type 0 where
  pub holds : ClaimHolds I cert.claim cert.plan
  pub accepted : IsAccepted I cert
  pub small : HasSmallCosts cert.claim
  pub within : length (certificate_text I cert) ≤ MAX_CERTIFICATE_BYTES

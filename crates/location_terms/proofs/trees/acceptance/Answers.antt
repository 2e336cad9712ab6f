-- The plan and the tree of the certificate show its claim.
use Rattle.location_terms.proofs.Claims.{claim_holds}
use Rattle.location_terms.proofs.trees.acceptance.Goals as goal

pub returns : goal.returns
returns c I cert valid accepted = claim_holds I valid cert.claim cert.plan cert.tree accepted.shows

-- The leaves cover.
use Rattle.location_terms.proofs.Leaves.{covered}
use Rattle.location_terms.proofs.trees.covering.Goals as goal

pub returns : goal.returns
returns c = covered

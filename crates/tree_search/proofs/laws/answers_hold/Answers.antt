-- The answer's certificate is accepted, so that its claim holds.
use Rattle.location_terms.proofs.Claims.{claim_holds}
use Rattle.tree_search.specs.Answer.{plan_in, tree_in, claim_in}
use Rattle.tree_search.proofs.laws.answers_hold.Goals as goal

pub returns : goal.returns
returns c I old handed budget a valid answer = claim_holds I valid (claim_in I a) (plan_in a) (tree_in a) answer.accepted.shows

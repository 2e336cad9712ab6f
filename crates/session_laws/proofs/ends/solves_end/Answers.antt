use Rattle.std.proofs.Common.{subst}
use Rattle.tree_search.specs.Answer.{IsAnswerTo}
use Rattle.tree_search.proofs.Decided.{decided}
use Rattle.whatif_session.specs.State.{present_plan, starting_tree}
use Rattle.session_laws.proofs.Decided.{handed_once}
use Rattle.session_laws.proofs.ends.solves_end.Goals as goal

pub returns : goal.returns
returns c I state budget handed held answer is tells enough solve =
    decided I (starting_tree state I) handed budget held answer tells
    (subst (λ h. IsAnswerTo I (starting_tree state I) h budget answer) (handed_once I (present_plan state) solve.handed handed solve.is_handed is) solve.found) enough

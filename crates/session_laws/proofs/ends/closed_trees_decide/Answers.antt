use Rattle.std.proofs.Common.{subst}
use Rattle.tree_search.specs.Answer.{IsAnswerTo}
use Rattle.whatif_session.specs.State.{present_plan, starting_tree}
use Rattle.session_laws.proofs.Decided.{handed_once, closed_answer}
use Rattle.session_laws.proofs.ends.closed_trees_decide.Goals as goal

pub returns : goal.returns
returns c I state budget handed answer valid is closed solve =
    closed_answer I valid (starting_tree state I) budget handed answer closed
    (subst (λ h. IsAnswerTo I (starting_tree state I) h budget answer) (handed_once I (present_plan state) solve.handed handed solve.is_handed is) solve.found)

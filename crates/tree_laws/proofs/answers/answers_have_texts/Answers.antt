use Rattle.tree_laws.proofs.Standing.{small_costs, short_text_of}
use Rattle.tree_laws.proofs.answers.answers_have_texts.Goals as goal

pub returns-clause-small : goal.returns-clause-small
returns-clause-small c = small_costs

pub returns-clause-within : goal.returns-clause-within
returns-clause-within c = short_text_of

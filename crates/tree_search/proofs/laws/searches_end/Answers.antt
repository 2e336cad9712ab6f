use Rattle.tree_search.proofs.Decided.{grown_within, decided}
use Rattle.tree_search.proofs.laws.searches_end.Goals as goal

pub returns-clause-small : goal.returns-clause-small
returns-clause-small c = λ I target cost old new held tells from. grown_within I old target cost new held tells from

pub returns-clause-decided : goal.returns-clause-decided
returns-clause-decided c = λ I old handed budget held a tells answer enough. decided I old handed budget held a tells answer enough

use Rattle.dual_adjust.proofs.Lowered.{candidate_exists, candidate_keeps, one_candidate}
use Rattle.dual_adjust.proofs.laws.candidates.Goals as goal

pub returns-clause-some : goal.returns-clause-some
returns-clause-some c = λ I path d j valid tame known. candidate_exists I path d j valid tame known

pub returns-clause-one : goal.returns-clause-one
returns-clause-one c = λ I path d j a b p q. one_candidate I path d j a b p q

pub returns-clause-keeps : goal.returns-clause-keeps
returns-clause-keeps c = λ I path d j result valid tame known asc. candidate_keeps I path d j valid tame known result asc

use Rattle.dual_ascent.specs.Levels.{customer_places}
use Rattle.dual_ascent.proofs.Rounds.{one_ascent}
use Rattle.dual_ascent.proofs.Results.{others, ascended_exists, ascended_keeps, ascended_is_blocked, apart_exists, apart_keeps, apart_stays, apart_is_blocked}
use Rattle.dual_ascent.proofs.laws.ascents.Goals as goal

pub returns-clause-some : goal.returns-clause-some
returns-clause-some c = λ I path start valid tame. ascended_exists I path valid start tame

pub returns-clause-one : goal.returns-clause-one
returns-clause-one c = λ I path start a b p q. one_ascent I path (customer_places I) start a b p q

pub returns-clause-keeps : goal.returns-clause-keeps
returns-clause-keeps c = λ I path start result valid tame asc. ascended_keeps I path valid start tame result asc

pub returns-clause-blocked : goal.returns-clause-blocked
returns-clause-blocked c = λ I path start result valid tame asc. ascended_is_blocked I path valid start tame result asc

pub returns-clause-some_apart : goal.returns-clause-some_apart
returns-clause-some_apart c = λ I path start apart valid tame. apart_exists I path valid start tame apart

pub returns-clause-one_apart : goal.returns-clause-one_apart
returns-clause-one_apart c = λ I path apart start a b p q. one_ascent I path (others I path apart) start a b p q

pub returns-clause-keeps_apart : goal.returns-clause-keeps_apart
returns-clause-keeps_apart c = λ I path apart start result valid tame asc. apart_keeps I path valid start tame apart result asc

pub returns-clause-stays_apart : goal.returns-clause-stays_apart
returns-clause-stays_apart c = λ I path apart start result valid tame asc. apart_stays I path valid start tame apart result asc

pub returns-clause-blocked_apart : goal.returns-clause-blocked_apart
returns-clause-blocked_apart c = λ I path apart start result valid tame asc. apart_is_blocked I path valid start tame apart result asc

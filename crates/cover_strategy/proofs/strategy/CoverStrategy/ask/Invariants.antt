use Rattle.dual_ascent.specs.Work.{IsWorkFor}
use Rattle.cover_strategy.proofs.strategy.CoverStrategy.ask.Given as goal

-- the arrays of the ascents stay those of the box's instance
abbrev pub invariant-loop-turn : goal.invariant-loop-turn
invariant-loop-turn g l = IsWorkFor l.boxed.instance l.work

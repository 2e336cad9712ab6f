use Rattle.std.proofs.Common.{ℕ, ◌<◌, Contains}
use Rattle.plan_meaning.specs.Plan.{serve_at}
use Rattle.plan_meaning.proofs.parts.serves_from_open.Given as goal

abbrev pub invariant-loop-k : goal.invariant-loop-k
invariant-loop-k l = (j : ℕ) → j < l.k → Contains l.plan.sites (serve_at l.plan j).1

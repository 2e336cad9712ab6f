use Rattle.std.proofs.Common.{ℕ, ◌<◌, IsSome}
use Rattle.location_terms.specs.Instance.{lane}
use Rattle.plan_meaning.specs.Plan.{serve_at}
use Rattle.plan_meaning.proofs.parts.uses_lanes.Given as goal

abbrev pub invariant-loop-k : goal.invariant-loop-k
invariant-loop-k l = (j : ℕ) → j < l.k → IsSome (lane l.inst (serve_at l.plan j).1 (serve_at l.plan j).0)

use Rattle.std.proofs.Common.{◌≡◌, ℕ, ◌<◌}
use Rattle.location_terms.specs.Instance.{customer_at}
use Rattle.plan_meaning.specs.Plan.{serve_at}
use Rattle.plan_meaning.proofs.parts.serves_each_once.Given as goal

abbrev pub invariant-loop-k : goal.invariant-loop-k
invariant-loop-k l = (j : ℕ) → j < l.k → (serve_at l.plan j).0 ≡ (customer_at l.inst j).id

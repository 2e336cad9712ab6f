use Rattle.std.proofs.Common.{ℕ, ◌<◌, ◌≡◌}
use Rattle.plan_meaning.specs.Plan.{serve_at}
use Rattle.assignment_search.proofs.within.serves.Given as goal

abbrev pub invariant-loop-k : goal.invariant-loop-k
invariant-loop-k l = (m : ℕ) → m < l.k → serve_at l.plan m ≡ (l.cust, l.site) → ⊥

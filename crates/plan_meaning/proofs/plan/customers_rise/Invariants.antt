use Rattle.std.proofs.Common.{ℕ, ◌+◌, ◌<◌, map, slice_index}
use Rattle.plan_meaning.proofs.plan.customers_rise.Given as goal

abbrev pub invariant-loop-k : goal.invariant-loop-k
invariant-loop-k l = let ids = map (λ v. v.0) l.serves in (j : ℕ) → j + 1 < l.k → slice_index ids j < slice_index ids (j + 1)

use Rattle.std.proofs.Common.{ℕ, ◌<◌, get_or, Contains}
use Rattle.location_terms.specs.Instance.{site_ids}
use Rattle.plan_meaning.proofs.parts.knows_sites.Given as goal

abbrev pub invariant-loop-k : goal.invariant-loop-k
invariant-loop-k l = (j : ℕ) → j < l.k → Contains (site_ids l.inst) (get_or l.plan.sites j 0)

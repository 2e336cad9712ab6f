use Rattle.std.proofs.Common.{◌≡◌, ℕ, ◌<◌, None}
use Rattle.location_terms.specs.Instance.{site_at}
use Rattle.location_terms.specs.Bound.{u_at}
use Rattle.dual_value.proofs.fit.is_unpriced.Given as goal

abbrev pub invariant-loop-site : goal.invariant-loop-site
invariant-loop-site l = (i : ℕ) → i < l.site → (site_at l.inst i).cap ≡ None → u_at l.duals i ≡ 0

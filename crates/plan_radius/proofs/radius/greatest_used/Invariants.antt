use Rattle.std.proofs.Common.{◌≡◌, ◌≤◌, max, map, fold, take}
use Rattle.std.specs.Prelude.{unwrap_or}
use Rattle.location_terms.specs.Instance.{lane}
use Rattle.location_terms.specs.declared.limits.TheConstants.{MAX_AMOUNT}
use Rattle.plan_radius.proofs.radius.greatest_used.Given as goal

abbrev pub invariant-loop-k : goal.invariant-loop-k
invariant-loop-k l = record {
  exact : l.greatest ≡ fold max 0 (take l.k (map (λ v. unwrap_or (lane l.inst v.1 v.0) 0) l.plan.serves));
  small : l.greatest ≤ MAX_AMOUNT;
}

use Rattle.std.proofs.Common.{◌≡◌, ◌*◌, ◌≤◌, take}
use Rattle.std.specs.Prelude.{sum_by, filter, ◌==◌}
use Rattle.location_terms.specs.Instance.{demand_of}
use Rattle.location_terms.specs.declared.limits.TheConstants.{MAX_AMOUNT}
use Rattle.plan_meaning.proofs.amounts.load.Given as goal

abbrev pub invariant-loop-k : goal.invariant-loop-k
invariant-loop-k l = record {
  exact : l.load ≡ sum_by (λ v. demand_of l.inst v.0) (filter (λ v. v.1 == l.site) (take l.k l.plan.serves));
  small : l.load ≤ l.k * MAX_AMOUNT;
}

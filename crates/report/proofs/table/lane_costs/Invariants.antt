use Rattle.std.proofs.Common.{◌≡◌, ◌*◌, ◌≤◌, take}
use Rattle.std.specs.Prelude.{sum_by, unwrap_or}
use Rattle.location_terms.specs.Instance.{site_at, lane}
use Rattle.location_terms.specs.declared.limits.TheConstants.{MAX_AMOUNT}
use Rattle.report.proofs.table.lane_costs.Given as goal

abbrev pub invariant-loop-k : goal.invariant-loop-k
invariant-loop-k l = record {
  exact : l.sum ≡ sum_by (λ c. unwrap_or (lane l.inst (site_at l.inst l.i).id c) 0) (take l.k l.custs);
  small : l.sum ≤ l.k * MAX_AMOUNT;
}

use Rattle.std.proofs.Common.{◌≡◌, ◌*◌, ◌≤◌, take}
use Rattle.std.specs.Prelude.{sum_by}
use Rattle.location_terms.specs.Instance.{demand_of}
use Rattle.location_terms.specs.declared.limits.TheConstants.{MAX_AMOUNT}
use Rattle.report.proofs.table.demands.Given as goal

abbrev pub invariant-loop-k : goal.invariant-loop-k
invariant-loop-k l = record {
  exact : l.sum ≡ sum_by (demand_of l.inst) (take l.k l.custs);
  small : l.sum ≤ l.k * MAX_AMOUNT;
}

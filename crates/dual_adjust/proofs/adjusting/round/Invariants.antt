use Rattle.std.proofs.Common.{◌≡◌, ◌-◌, ◌<◌, ◌≤◌, length, ◌<ℤ◌}
use Rattle.std.specs.Prelude.{◌⊎◌}
use Rattle.location_terms.specs.Bound.{bound_of}
use Rattle.dual_adjust.specs.Adjusted.{IsTried}
use Rattle.dual_adjust.proofs.adjusting.round.Given as goal

abbrev pub invariant-loop-next : goal.invariant-loop-next
invariant-loop-next l = record {
  tried : IsTried l.boxed.instance l.boxed.path l.fn.trials l.trials;
  within : l.from ≤ length l.boxed.instance.customers;
  so_far : ((l.from ≡ 0) × (l.trials.duals ≡ l.fn.trials.duals)) ⊎ ((0 < l.from) × (bound_of l.boxed.instance l.boxed.path l.fn.trials.duals <ℤ bound_of l.boxed.instance l.boxed.path l.trials.duals));
}

abbrev pub decreases-loop-next : goal.decreases-loop-next
decreases-loop-next l = length l.boxed.instance.customers - l.from

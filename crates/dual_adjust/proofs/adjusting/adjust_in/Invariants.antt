use Rattle.std.proofs.Common.{◌≡◌, ◌<ℤ◌}
use Rattle.std.specs.Prelude.{◌⊎◌}
use Rattle.location_terms.specs.Bound.{bound_of}
use Rattle.dual_adjust.specs.Adjusted.{IsTried}
use Rattle.dual_adjust.proofs.adjusting.adjust_in.Given as goal

abbrev pub invariant-loop-round : goal.invariant-loop-round
invariant-loop-round l = record {
  tried : IsTried l.boxed.instance l.boxed.path l.initial.trials l.trials;
  so_far : ((l._round ≡ 0) × (l.trials.duals ≡ l.initial.trials.duals)) ⊎ (bound_of l.boxed.instance l.boxed.path l.initial.trials.duals <ℤ bound_of l.boxed.instance l.boxed.path l.trials.duals);
}

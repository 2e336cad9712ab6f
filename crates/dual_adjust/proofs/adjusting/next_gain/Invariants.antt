use Rattle.std.proofs.Common.{◌≡◌, ℕ, ◌<◌, ◌≤◌}
use Rattle.dual_adjust.specs.Present.{HasAscended}
use Rattle.dual_adjust.specs.Adjusted.{GainsNothing}
use Rattle.dual_adjust.proofs.adjusting.next_gain.Given as goal

abbrev pub invariant-loop-cust : goal.invariant-loop-cust
invariant-loop-cust l = record {
  risen : HasAscended l.boxed.instance l.boxed.path l.trials;
  same : l.trials.duals ≡ l.fn.trials.duals;
  nothing : (j : ℕ) → l.from ≤ j → j < l.cust → GainsNothing l.boxed.instance l.boxed.path l.fn.trials.duals j;
}

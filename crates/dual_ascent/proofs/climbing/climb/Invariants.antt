use Rattle.std.proofs.Common.{◌≡◌, ℕ, length, pos}
use Rattle.std.specs.Int.{int_gap}
use Rattle.location_terms.specs.Bound.{v_at, total}
use Rattle.location_terms.specs.Fit.{AreTame}
use Rattle.location_terms.specs.declared.limits.TheConstants.{MAX_VALUE}
use Rattle.dual_value.specs.Slacks.{AreSlacks}
use Rattle.dual_ascent.specs.Ascent.{rounds}
use Rattle.dual_ascent.specs.Steps.{AreBlockers, picked}
use Rattle.dual_ascent.proofs.climbing.climb.Given as goal

abbrev pub invariant-rounds : goal.invariant-rounds
invariant-rounds l = record {
  climbed : (n : ℕ) × (l.duals ≡ rounds l.boxed.instance l.boxed.path (picked l.boxed.instance l.apart) l.initial.duals n);
  tame : AreTame l.boxed.instance l.duals;
  slacks : AreSlacks l.boxed.instance l.boxed.path l.duals l.slacks;
  blockers : AreBlockers l.boxed.instance l.boxed.path l.duals l.blockers;
}

-- what is left below the greatest value for all customers
abbrev pub decreases-rounds : goal.decreases-rounds
decreases-rounds l = int_gap (total (v_at l.duals) (length l.boxed.instance.customers)) (total (λ _. pos MAX_VALUE) (length l.boxed.instance.customers))

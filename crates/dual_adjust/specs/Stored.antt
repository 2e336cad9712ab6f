-- How the duals and the arrays of an adjustment are stored.
use Rattle.std.specs.Prelude.{◌≡◌, length}
use Rattle.dual_adjust.specs.Present.{Present}
use Rattle.dual_adjust.specs.declared.trials.Trials.TheInside.{Inside}

abbrev pub present_of : Inside → Present
present_of a = record { duals = a.present.duals; work = a.present.work }

-- the duals and the arrays of the trial have the sizes of the present ones
pub record AreAlike (a : Inside) : Type 0 where
  pub customers : length a.trial.duals.v ≡ length a.present.duals.v
  pub sites : length a.trial.duals.u ≡ length a.present.duals.u
  pub slacks : length a.trial.work.slacks ≡ length a.present.work.slacks
  pub blockers : length a.trial.work.blockers ≡ length a.present.work.blockers

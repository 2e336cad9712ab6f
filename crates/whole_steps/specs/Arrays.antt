-- How steps are stored.
use Rattle.std.specs.Prelude.{◌≡◌, length}
use Rattle.dual_steps.specs.Sizes.{Sizes}
use Rattle.whole_steps.specs.declared.steps.WholeSteps.TheInside.{Inside}

abbrev pub array_sizes : Inside → Sizes
array_sizes a = record { sites = length a.slacks.items; customers = length a.customers.items }

-- each array has a place for each site, or for each customer
pub record AreWhole (a : Inside) : Type 0 where
  pub sites : length a.sites.items ≡ length a.slacks.items
  pub rows : length a.rows.items ≡ length a.slacks.items
  pub progress : a.progress ≡ length a.slacks.items
  pub best_slacks : length a.best_slacks.items ≡ length a.slacks.items
  pub shares : length a.shares.items ≡ length a.slacks.items
  pub rounded : length a.rounded.items ≡ length a.customers.items

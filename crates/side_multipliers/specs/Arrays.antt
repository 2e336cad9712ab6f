-- How steps are stored.
use Rattle.std.specs.Prelude.{◌≡◌, length}
use Rattle.dual_steps.specs.Sizes.{Sizes}
use Rattle.side_multipliers.specs.declared.cap_steps.CapSteps.TheInside.{Inside}

abbrev pub array_sizes : Inside → Sizes
array_sizes a = record { sites = length a.slacks.items; customers = length a.customers.items }

-- each array has a place for each site, or for each customer
pub record AreWhole (a : Inside) : Type 0 where
  pub sites : length a.sites.items ≡ length a.slacks.items
  pub purses : length a.purses.items ≡ length a.slacks.items
  pub progress : a.progress ≡ length a.slacks.items
  pub best_prices : length a.best_prices.items ≡ length a.slacks.items
  pub rounded_prices : length a.rounded_prices.items ≡ length a.slacks.items
  pub demands : length a.demands.items ≡ length a.customers.items
  pub rounded : length a.rounded.items ≡ length a.customers.items

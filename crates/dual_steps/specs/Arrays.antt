-- How steps are stored.
use Rattle.std.specs.Prelude.{◌≡◌, ℕ, length}
use Rattle.dual_steps.specs.Sizes.{Sizes, sizes_of}
use Rattle.dual_steps.specs.declared.steps.Steps.TheInside.{Inside}
use Rattle.dual_steps.specs.declared.progress.Progress.TheInside.{Inside as Told}

abbrev pub array_sizes : Inside → Sizes
array_sizes a = record { sites = length a.slacks.items; customers = length a.customers.items }

-- each array has a place for each site of the instance, or for each customer
pub record AreWhole (a : Inside) : Type 0 where
  pub instance : array_sizes a ≡ sizes_of a.inst.now
  pub sites : length a.sites.items ≡ length a.slacks.items
  pub progress : a.progress ≡ length a.slacks.items
  pub plan : length a.plan.items ≡ length a.slacks.items
  pub rounded : length a.rounded.items ≡ length a.customers.items

abbrev pub site_count : Told → ℕ
site_count a = length a.taken.items

-- each array has a place for each site
pub record AreOfSites (a : Told) : Type 0 where
  pub best_taken : length a.best_taken.items ≡ length a.taken.items
  pub shares : length a.shares.items ≡ length a.taken.items

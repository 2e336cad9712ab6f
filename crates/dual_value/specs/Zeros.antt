-- The duals from which an ascent starts where nothing is known yet.
use Rattle.std.specs.Prelude.{ℕ, length, replicate, pos}
use Rattle.location_terms.specs.Instance.{Instance}
use Rattle.location_terms.specs.declared.form.LeafForm.TheVariants.{Prices}
use Rattle.location_terms.specs.Bound.{Duals}

-- duals and prices of 0 at this scale, by prices
abbrev pub zeros : Instance → ℕ → Duals
zeros I q = record { form = Prices; q = q; nu = pos 0; v = replicate (length I.customers) (pos 0); u = replicate (length I.sites) 0 }

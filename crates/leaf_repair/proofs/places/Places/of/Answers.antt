use Rattle.std.proofs.Common.{◌∙◌, sym, subst}
use Rattle.std.specs.List.Sorted.{IsStrictlyIncreasing}
use Rattle.leaf_repair.proofs.places.Places.of.Goals as goal

pub places_in-requires : goal.places_in-requires
places_in-requires c = subst IsStrictlyIncreasing (sym (c.deref-2.ensures.value ∙ c.in_ok-now.ensures)) c.sites-valid.ensures.valid.sites_named.rising

pub places_in-requires-2 : goal.places_in-requires-2
places_in-requires-2 c = subst IsStrictlyIncreasing (sym (c.deref-4.ensures.value ∙ c.in_ok-now-2.ensures)) c.sites-valid.ensures.valid.customers_named.rising

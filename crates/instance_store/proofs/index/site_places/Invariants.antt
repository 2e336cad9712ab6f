use Rattle.std.proofs.Common.{◌≡◌, take}
use Rattle.instance_store.specs.Parts.{site_row_ids}
use Rattle.instance_store.proofs.index.site_places.Given as goal

-- the ids of the rows so far
abbrev pub invariant-loop-site : goal.invariant-loop-site
invariant-loop-site l = l.places.keys ≡ take l.site-index (site_row_ids l.sites)

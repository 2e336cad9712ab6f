use Rattle.std.proofs.Common.{◌≡◌, take}
use Rattle.location_terms.specs.Instance.{site_ids}
use Rattle.leaf_repair.proofs.places.instance_sites.Given as goal

abbrev pub invariant-loop-site : goal.invariant-loop-site
invariant-loop-site l = l.numbers.items ≡ take l.site (site_ids l.inst)

use Rattle.std.proofs.Common.{◌≡◌, take}
use Rattle.location_terms.specs.Instance.{site_ids}
use Rattle.lane_order.proofs.build.site_ids.Given as goal

-- the ids of the sites so far
abbrev pub invariant-loop-site : goal.invariant-loop-site
invariant-loop-site l = l.ids.items ≡ take l.site (site_ids l.inst)

use Rattle.std.proofs.Common.{◌≡◌, map}
use Rattle.std.specs.List.{range_with_len}
use Rattle.location_terms.specs.Instance.{site_at}
use Rattle.plan_search.proofs.lanes.whole_rooms.Given as goal

abbrev pub invariant-loop-site : goal.invariant-loop-site
invariant-loop-site l = l.rooms.items ≡ map (λ i. (site_at l.inst i).cap) (range_with_len 0 l.site)

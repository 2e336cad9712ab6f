use Rattle.std.proofs.Common.{◌≡◌, map}
use Rattle.location_terms.specs.Instance.{site_at}
use Rattle.plan_search.specs.Flags.{is_set}
use Rattle.plan_search.proofs.Flagging.{passing}
use Rattle.plan_search.proofs.packing.open_sites.Given as goal

abbrev pub invariant-loop-site : goal.invariant-loop-site
invariant-loop-site l = l.sites.items ≡ map (λ i. (site_at l.inst i).id) (passing (is_set l.flags) l.site)

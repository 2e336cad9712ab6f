use Rattle.std.proofs.Common.{◌≡◌, map, take, option_map}
use Rattle.location_terms.specs.Instance.{customer_at}
use Rattle.location_terms.specs.Carried.{cheapest_site}
use Rattle.plan_meaning.proofs.Carrying.{priced}
use Rattle.plan_meaning.proofs.carried.cheapest_site.Given as goal

abbrev pub invariant-loop-k : goal.invariant-loop-k
invariant-loop-k l = let c = (customer_at l.inst l.j).id in l.best ≡ option_map (priced l.inst c) (cheapest_site l.inst (take l.k (map (λ x. x.0) l.opened)) c)

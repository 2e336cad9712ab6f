use Rattle.std.proofs.Common.{◌≡◌, map, take}
use Rattle.std.specs.Prelude.{filter_map, option_map}
use Rattle.location_terms.specs.Instance.{customer_ids}
use Rattle.location_terms.specs.Carried.{carried_site}
use Rattle.plan_meaning.proofs.carried.carried_serves.Given as goal

abbrev pub invariant-loop-j : goal.invariant-loop-j
invariant-loop-j l = l.serves.items ≡ filter_map (λ c. option_map (λ s. (c, s)) (carried_site l.inst l.plan (map (λ x. x.0) l.opened) c)) (take l.j (customer_ids l.inst))

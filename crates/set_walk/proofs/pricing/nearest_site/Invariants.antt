use Rattle.location_terms.specs.Instance.{customer_at}
use Rattle.set_walk.proofs.Steps.{opened_before, IsNearestSoFar}
use Rattle.set_walk.proofs.pricing.nearest_site.Given as goal

abbrev pub invariant-loop-site : goal.invariant-loop-site
invariant-loop-site l = IsNearestSoFar l.inst (opened_before l.inst l.set.bits l.site) (customer_at l.inst l.customer).id l.nearest.site l.nearest.cost

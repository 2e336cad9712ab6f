use Rattle.std.proofs.Common.{ap, subst}
use Rattle.location_terms.specs.Instance.{Instance}
use Rattle.plan_search.specs.InBox.{IsNoWorse}
use Rattle.tree_search.specs.Best.{Best, Improves}
use Rattle.tree_search.specs.Searching.{Searching}
use Rattle.tree_search.proofs.Going.{search_still}
use Rattle.tree_search.proofs.search.Search.offer.Goals as goal

pub invariant_of-self : goal.invariant_of-self
invariant_of-self c = search_still c.self.inside.order.now c.self.inside.incumbent c.offer.new.self c.self.inside.leaf c.self.inside.bounds c.self.invariant c.offer.ensures.improves.same

pub returns-clause-improves : goal.returns-clause-improves
returns-clause-improves c = subst (λ (x : Best). Improves x c.offer.new.self) (ap (λ (s : Searching). s.best) c.self.view_is) c.offer.ensures.improves

pub returns-clause-offered : goal.returns-clause-offered
returns-clause-offered c = subst (λ (J : Instance). IsNoWorse J c.offer.new.self.plan c.args.plan) (ap (λ (s : Searching). s.best.instance) c.self.view_is) c.offer.ensures.offered

pub returns-clause-leaf : goal.returns-clause-leaf
returns-clause-leaf c = ap (λ (s : Searching). s.leaf) c.self.view_is

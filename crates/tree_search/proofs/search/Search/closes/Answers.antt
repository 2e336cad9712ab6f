use Rattle.std.proofs.Common.{ℕ, Option, ap, subst}
use Rattle.std.specs.Prelude.{◌↔◌, IsTrue}
use Rattle.location_terms.specs.Fit.{BoundCloses}
use Rattle.tree_search.specs.Making.{Making}
use Rattle.tree_search.specs.Searching.{Searching}
use Rattle.tree_search.proofs.search.Search.closes.Goals as goal

pub returns : goal.returns
returns c =
    subst (λ (t : Option ℕ). IsTrue c.closes.result ↔ BoundCloses c.args.self.now.leaf.bound c.args.self.now.leaf.best.duals.q t) c.cost.ensures
    (subst (λ (m : Making). IsTrue c.closes.result ↔ BoundCloses m.bound m.best.duals.q c.cost.result) (ap (λ (s : Searching). s.leaf) c.self.view_is) c.closes.ensures)

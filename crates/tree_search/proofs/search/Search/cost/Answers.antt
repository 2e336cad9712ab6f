use Rattle.std.proofs.Common.{◌∙◌, ap}
use Rattle.tree_search.specs.Answer.{cost_in}
use Rattle.tree_search.specs.Searching.{Searching}
use Rattle.tree_search.proofs.search.Search.cost.Goals as goal

pub returns : goal.returns
returns c = c.cost.ensures ∙ ap (λ (s : Searching). cost_in s.best.instance s.best.plan) c.self.view_is

use Rattle.std.proofs.Common.{◌∙◌, ap}
use Rattle.tree_search.specs.Searching.{Searching}
use Rattle.tree_search.proofs.search.Search.instance.Goals as goal

pub returns : goal.returns
returns c = c.instance.ensures ∙ ap (λ (s : Searching). s.best.instance) c.self.view_is

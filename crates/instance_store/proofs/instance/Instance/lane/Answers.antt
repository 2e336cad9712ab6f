use Rattle.std.proofs.Common.{◌∙◌}
use Rattle.instance_store.proofs.StoredLemmas.{lane-seen}
use Rattle.instance_store.proofs.instance.Instance.lane.Goals as goal

pub returns-clause-exact : goal.returns-clause-exact
returns-clause-exact c = c.get.ensures.exact ∙ lane-seen c.self.inside c.self.invariant c.args.self.now c.self.view_is c.args.i c.args.j c.index.result.now c.requires.site c.requires.customer c.index.ensures

use Rattle.instance_store.proofs.StoredLemmas.{fixed-small}
use Rattle.instance_store.proofs.instance.Instance.fixed.Goals as goal

pub returns-clause-small : goal.returns-clause-small
returns-clause-small c = fixed-small c.self.inside c.self.invariant c.args.self.now c.self.view_is c.args.i c.index.result.now c.requires c.index.ensures

use Rattle.instance_store.proofs.StoredLemmas.{demand-small}
use Rattle.instance_store.proofs.instance.Instance.demand.Goals as goal

pub returns-clause-small : goal.returns-clause-small
returns-clause-small c = demand-small c.self.inside c.self.invariant c.args.self.now c.self.view_is c.args.j c.index.result.now c.requires c.index.ensures

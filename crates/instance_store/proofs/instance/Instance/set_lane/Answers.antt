use Rattle.instance_store.proofs.ChangeLemmas.{stored-with_lane, IsStored-with_lane}
use Rattle.instance_store.proofs.instance.Instance.set_lane.Goals as goal

pub invariant_of-self : goal.invariant_of-self
invariant_of-self c =
    IsStored-with_lane c.self.inside c.self.invariant c.args.self.now c.self.view_is c.args.site c.args.cust c.index_mut.result.now c.set.new.self c.args.cost
    c.requires.site c.requires.customer c.index_mut.ensures.value c.set.ensures c.requires.small

pub returns : goal.returns
returns c =
    stored-with_lane c.self.inside c.self.invariant c.args.self.now c.self.view_is c.args.site c.args.cust c.index_mut.result.now c.set.new.self c.args.cost
    c.requires.site c.requires.customer c.index_mut.ensures.value c.set.ensures c.requires.small

use Rattle.std.proofs.Common.{subst, sym}
use Rattle.location_terms.specs.Instance.{site_at}
use Rattle.instance_store.specs.Small.{AreSmall}
use Rattle.instance_store.proofs.StoredLemmas.{valid-seen, lane-seen, lanes-seen, lanes-small}
use Rattle.instance_store.proofs.instance.Instance.lanes.Goals as goal

pub returns-clause-exact : goal.returns-clause-exact
returns-clause-exact c = lanes-seen c.self.inside c.self.invariant c.args.self.now c.self.view_is c.args.i c.index.result.now c.requires c.index.ensures

pub returns-clause-each : goal.returns-clause-each
returns-clause-each c = λ j inside. lane-seen c.self.inside c.self.invariant c.args.self.now c.self.view_is c.args.i j c.index.result.now c.requires inside c.index.ensures

pub returns-clause-small : goal.returns-clause-small
returns-clause-small c =
    subst AreSmall (sym (lanes-seen c.self.inside c.self.invariant c.args.self.now c.self.view_is c.args.i c.index.result.now c.requires c.index.ensures))
    (lanes-small c.args.self.now (valid-seen c.self.inside c.self.invariant c.args.self.now c.self.view_is) (site_at c.args.self.now c.args.i))

use Rattle.instance_store.proofs.StoredLemmas.{cust_place-seen, cust-found, cust-known}
use Rattle.instance_store.proofs.instance.Instance.cust_at.Goals as goal

pub returns-clause-exact : goal.returns-clause-exact
returns-clause-exact c = cust_place-seen c.self.inside c.self.invariant c.args.self.now c.self.view_is c.args.id c.number.result c.get_index_of.result c.get_index_of.ensures.index c.number.ensures

pub returns-clause-found : goal.returns-clause-found
returns-clause-found c = cust-found c.args.self.now c.args.id c.get_index_of.result (cust_place-seen c.self.inside c.self.invariant c.args.self.now c.self.view_is c.args.id c.number.result c.get_index_of.result c.get_index_of.ensures.index c.number.ensures)

pub returns-clause-known : goal.returns-clause-known
returns-clause-known c = cust-known c.args.self.now c.args.id c.get_index_of.result (cust_place-seen c.self.inside c.self.invariant c.args.self.now c.self.view_is c.args.id c.number.result c.get_index_of.result c.get_index_of.ensures.index c.number.ensures)

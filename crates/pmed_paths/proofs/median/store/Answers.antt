use Rattle.pmed_paths.proofs.Medians.{stored-parts, stored-is, stored-valid}
use Rattle.pmed_paths.proofs.median.store.Goals as goal

pub from_parts-requires : goal.from_parts-requires
from_parts-requires c = stored-parts c.args.net.now c.medians-open.result c.vertices-vertices.result c.in_ok-customers.customers.items c.args.sites.items c.medians-open.ensures c.vertices-vertices.ensures.count c.in_ok-customers.ensures c.requires.rows c.vertices-vertices.ensures.network c.requires.near

pub returns-clause-instance : goal.returns-clause-instance
returns-clause-instance c = stored-is c.args.net.now c.medians-open.result c.vertices-vertices.result c.in_ok-customers.customers.items c.args.sites.items c.medians-open.ensures c.vertices-vertices.ensures.count c.in_ok-customers.ensures c.requires.rows c.in_ok-inst.inst c.in_ok-inst.ensures

pub returns-clause-valid : goal.returns-clause-valid
returns-clause-valid c = stored-valid c.args.net.now c.medians-open.result c.vertices-vertices.result c.in_ok-customers.customers.items c.args.sites.items c.medians-open.ensures c.vertices-vertices.ensures.count c.in_ok-customers.ensures c.requires.rows c.vertices-vertices.ensures.network c.requires.near c.in_ok-inst.inst c.in_ok-inst.ensures

use Rattle.std.proofs.Common.{◌∙◌, ap, subst, length, arith}
use Rattle.location_terms.specs.Instance.{Instance, IsValid, site_at, customer_at}
use Rattle.tree_search.specs.Service.{IsServiceOf}
use Rattle.tree_search.proofs.OpenLanes.{open_lane}
use Rattle.tree_search.proofs.splitting.split_first.Goals as goal

pub returns-in-Several-clause-some : goal.returns-in-Several-clause-some
returns-in-Several-clause-some c =
    let I = c.args.boxed.now.instance in
    let path = c.args.boxed.now.path in
    let j = c.loop-cust.cust in
    let i = c.in-Several.site in
    let service = subst (IsServiceOf I path j) c.in-Several.is c.service_of.ensures in
    open_lane I path (subst IsValid c.instance-inst.ensures c.custs-cust-end.ensures.valid) i j service.0 service.1 service.2 c.requires.capacitated c.requires.none_free
    (omega (arith, c.loop-cust-test.true, c.loop-cust.auto.cust-end, c.custs-cust-end.ensures.count, ap (λ (J : Instance). length J.customers) c.instance-inst.ensures)) c.site_id.result c.cust_id.result
    (c.site_id.ensures ∙ ap (λ (J : Instance). (site_at J i).id) c.instance-inst.ensures) (c.cust_id.ensures ∙ ap (λ (J : Instance). (customer_at J j).id) c.instance-inst.ensures)

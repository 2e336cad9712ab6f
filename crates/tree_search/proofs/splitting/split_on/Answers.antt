use Rattle.std.proofs.Common.{◌∙◌, sym, ap, subst, length, arith}
use Rattle.location_terms.specs.Instance.{Instance, IsValid, site_at, customer_at}
use Rattle.tree_search.specs.Service.{IsServiceOf}
use Rattle.tree_search.proofs.OpenLanes.{open_lane}
use Rattle.tree_search.proofs.splitting.split_on.Goals as goal

pub returns-then-admits : goal.returns-then-admits
returns-then-admits c =
    let I = c.args.boxed.now.instance in
    let path = c.args.boxed.now.path in
    let i = c.in-Some-Lane.site in
    let j = c.in-Some-Lane.cust in
    let service = subst (IsServiceOf I path j) c.in-Several.is c.service_of.ensures in
    record {
      some = open_lane I path (subst IsValid c.instance-inst.ensures c.sites.ensures.valid) i j
          (omega (arith, c.if-site-sites.false, c.sites.ensures.count, ap (λ (J : Instance). length J.sites) c.instance-inst.ensures)) (sym c.admits.ensures ∙ c.if-admits.true) service.2 c.requires.capacitated c.requires.none_free
          (omega (arith, c.if-cust-custs.false, c.custs.ensures.count, ap (λ (J : Instance). length J.customers) c.instance-inst.ensures)) c.site_id.result c.cust_id.result
          (c.site_id.ensures ∙ ap (λ (J : Instance). (site_at J i).id) c.instance-inst.ensures) (c.cust_id.ensures ∙ ap (λ (J : Instance). (customer_at J j).id) c.instance-inst.ensures);
    }

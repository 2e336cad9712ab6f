use Rattle.std.proofs.Common.{ap, ◌∙◌}
use Rattle.instance_store.specs.Parts.{site_row_ids, cust_row_ids}
use Rattle.instance_store.specs.declared.instance.Instance.TheInside.{Inside}
use Rattle.instance_store.proofs.StoredLemmas.{stored-instance_of, IsStored-instance_of}
use Rattle.instance_store.proofs.instance.Instance.from_parts.Goals as goal

pub invariant_of-result : goal.invariant_of-result
invariant_of-result c =
    IsStored-instance_of _ c.args.sites.items c.in_ok-sites.ensures c.requires
    (c.in_ok-site_places.ensures ∙ ap site_row_ids c.deref.ensures.value) (c.in_ok-cust_places.ensures ∙ ap cust_row_ids c.deref-2.ensures.value)

pub returns : goal.returns
returns c =
    let inside : Inside =
    record {
      lo = c.args.lo;
      hi = c.args.hi;
      next_site = c.args.next_site;
      next_cust = c.args.next_cust;
      custs = c.args.custs;
      sites = c.in_ok-sites.sites;
      site_places = c.in_ok-site_places.site_places;
      cust_places = c.in_ok-cust_places.cust_places;
    } in
    stored-instance_of inside c.args.sites.items c.in_ok-sites.ensures

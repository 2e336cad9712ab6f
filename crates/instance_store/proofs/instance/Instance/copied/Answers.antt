use Rattle.std.proofs.Common.{◌≡◌, refl, ◌∙◌}
use Rattle.std.specs.List.{each_same}
use Rattle.instance_store.specs.declared.instance.Instance.TheInside.{Inside}
use Rattle.instance_store.proofs.StoredLemmas.{stored-copy, IsStored-copy}
use Rattle.instance_store.proofs.instance.Instance.copied.Goals as goal

pub invariant_of-result : goal.invariant_of-result
invariant_of-result c =
    let a : Inside = c.self.inside in
    let custs : c.in_ok-custs.custs.items ≡ a.custs.items = c.in_ok-custs.ensures.items ∙ c.deref.ensures.value in
    let sites : c.in_ok-sites.sites.items ≡ a.sites.items = c.in_ok-sites.ensures ∙ c.deref-2.ensures.value in
    let site_places : c.in_ok-site_places.site_places.keys ≡ a.site_places.keys = each_same _ _ c.in_ok-site_places.ensures.cases in
    let cust_places : c.in_ok-cust_places.cust_places.keys ≡ a.cust_places.keys = each_same _ _ c.in_ok-cust_places.ensures.cases in
    IsStored-copy a _ refl refl refl refl custs sites site_places cust_places c.self.invariant

pub returns : goal.returns
returns c =
    let a : Inside = c.self.inside in
    let custs : c.in_ok-custs.custs.items ≡ a.custs.items = c.in_ok-custs.ensures.items ∙ c.deref.ensures.value in
    let sites : c.in_ok-sites.sites.items ≡ a.sites.items = c.in_ok-sites.ensures ∙ c.deref-2.ensures.value in
    let site_places : c.in_ok-site_places.site_places.keys ≡ a.site_places.keys = each_same _ _ c.in_ok-site_places.ensures.cases in
    let cust_places : c.in_ok-cust_places.cust_places.keys ≡ a.cust_places.keys = each_same _ _ c.in_ok-cust_places.ensures.cases in
    let copy : Inside =
    record {
      lo = a.lo;
      hi = a.hi;
      next_site = a.next_site;
      next_cust = a.next_cust;
      custs = c.in_ok-custs.custs;
      sites = c.in_ok-sites.sites;
      site_places = c.in_ok-site_places.site_places;
      cust_places = c.in_ok-cust_places.cust_places;
    } in
    stored-copy a copy refl refl refl refl custs sites site_places cust_places ∙ c.self.view_is

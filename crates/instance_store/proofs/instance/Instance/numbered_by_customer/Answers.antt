use Rattle.std.proofs.Common.{◌≡◌, map, length, All, subst, sym, ap, ◌∙◌}
use Rattle.std.proofs.lemmas.Result.{IfOk-weaker}
use Rattle.instance_store.specs.declared.numbered.CustLanes.{CustLanes}
use Rattle.instance_store.specs.Numbered.{columns_of, numbered_by_site}
use Rattle.instance_store.proofs.NumberedLists.{columns_are, by_site-by_customer, no_caps-columns, there-columns}
use Rattle.instance_store.proofs.instance.Instance.numbered_by_customer.Goals as goal

pub with_columns-requires : goal.with_columns-requires
with_columns-requires c = subst (All (λ (x : CustLanes). length x.lanes ≡ length c.args.sites.items)) (sym c.deref.ensures.value) (λ k d below. (c.requires.rows k d below).full)

pub numbered_by_site-requires : goal.numbered_by_site-requires
numbered_by_site-requires c =
    let sites : c.in_ok-sites.sites.items ≡ columns_of c.args.sites.items c.args.custs.items = c.in_ok-sites.ensures ∙ ap (columns_of c.args.sites.items) c.deref.ensures.value in
    let demands : c.in_ok-demands.demands.items ≡ map (λ (x : CustLanes). x.demand) c.args.custs.items = c.in_ok-demands.ensures ∙ ap (map (λ (x : CustLanes). x.demand)) c.deref-2.ensures.value in
    rw (sites, demands) (columns_are c.args.sites.items c.args.custs.items c.requires)

pub returns-clause-instance : goal.returns-clause-instance
returns-clause-instance c =
    let sites : c.in_ok-sites.sites.items ≡ columns_of c.args.sites.items c.args.custs.items = c.in_ok-sites.ensures ∙ ap (columns_of c.args.sites.items) c.deref.ensures.value in
    let demands : c.in_ok-demands.demands.items ≡ map (λ (x : CustLanes). x.demand) c.args.custs.items = c.in_ok-demands.ensures ∙ ap (map (λ (x : CustLanes). x.demand)) c.deref-2.ensures.value in
    IfOk-weaker c.numbered_by_site.result _ _ (λ I is. is ∙ (λ k. numbered_by_site (sites k) (demands k)) ∙ by_site-by_customer c.args.sites.items c.args.custs.items c.requires) c.numbered_by_site.ensures.instance

pub returns-clause-plain : goal.returns-clause-plain
returns-clause-plain c = λ no_caps there.
    let sites : c.in_ok-sites.sites.items ≡ columns_of c.args.sites.items c.args.custs.items = c.in_ok-sites.ensures ∙ ap (columns_of c.args.sites.items) c.deref.ensures.value in
    c.numbered_by_site.ensures.plain
    (rw sites (no_caps-columns c.args.sites.items c.args.custs.items c.requires no_caps))
    (rw sites (there-columns c.args.sites.items c.args.custs.items c.requires there))

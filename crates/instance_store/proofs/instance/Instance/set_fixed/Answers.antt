use Rattle.std.proofs.Common.{refl}
use Rattle.location_terms.specs.Instance.{Site}
use Rattle.instance_store.specs.declared.instance.StoredSite.{StoredSite}
use Rattle.instance_store.proofs.SiteLemmas.{stored-with_site, IsStored-with_site}
use Rattle.instance_store.proofs.StoredLemmas.{cap-small}
use Rattle.instance_store.proofs.instance.Instance.set_fixed.Goals as goal

pub invariant_of-self : goal.invariant_of-self
invariant_of-self c =
    let y : StoredSite = record { row = record c.index_mut.result.now.row { fixed = c.args.cost }; status = c.index_mut.result.now.status } in
    IsStored-with_site c.self.inside c.self.invariant c.args.self.now c.self.view_is c.args.site c.index_mut.result.now y (λ (s : Site). record s { fixed = c.args.cost }) c.requires.place c.index_mut.ensures.value refl refl refl
    (c.requires.small) (cap-small c.self.inside c.self.invariant c.args.self.now c.self.view_is c.args.site c.index_mut.result.now c.requires.place c.index_mut.ensures.value)

pub returns : goal.returns
returns c =
    let y : StoredSite = record { row = record c.index_mut.result.now.row { fixed = c.args.cost }; status = c.index_mut.result.now.status } in
    stored-with_site c.self.inside c.self.invariant c.args.self.now c.self.view_is c.args.site c.index_mut.result.now y (λ (s : Site). record s { fixed = c.args.cost }) c.requires.place c.index_mut.ensures.value refl refl refl

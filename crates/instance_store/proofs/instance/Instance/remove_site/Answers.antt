use Rattle.std.proofs.Common.{refl}
use Rattle.instance_store.specs.declared.instance.Instance.TheInside.{Inside}
use Rattle.instance_store.proofs.StoredLemmas.{site_row-seen}
use Rattle.instance_store.proofs.ChangeLemmas.{stored-without_site, IsStored-without_site}
use Rattle.instance_store.proofs.instance.Instance.remove_site.Goals as goal

pub invariant_of-self : goal.invariant_of-self
invariant_of-self c =
    let b : Inside = record c.self.inside { sites = c.remove-gone.new.self; site_places = c.shift_remove_index.new.self } in
    IsStored-without_site c.self.inside c.self.invariant c.args.self.now c.self.view_is c.args.site b c.requires.place c.requires.others
    c.remove-gone.ensures.items c.shift_remove_index.ensures.keys refl refl refl refl refl refl

pub returns-clause-rest : goal.returns-clause-rest
returns-clause-rest c =
    let b : Inside = record c.self.inside { sites = c.remove-gone.new.self; site_places = c.shift_remove_index.new.self } in
    stored-without_site c.self.inside c.self.invariant c.args.self.now c.self.view_is c.args.site b c.requires.place c.requires.others
    c.remove-gone.ensures.items c.shift_remove_index.ensures.keys refl refl refl refl refl refl

pub returns-clause-row : goal.returns-clause-row
returns-clause-row c = site_row-seen c.self.inside c.self.invariant c.args.self.now c.self.view_is c.args.site c.remove-gone.result c.requires.place c.remove-gone.ensures.value

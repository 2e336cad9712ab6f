use Rattle.std.proofs.Common.{List, ℕ, remove, refl, sym, ap, ◌∙◌, arith}
use Rattle.instance_store.specs.declared.instance.Instance.TheInside.{Inside}
use Rattle.instance_store.proofs.StoredLemmas.{IsStored-copy}
use Rattle.instance_store.proofs.ChangeLemmas.{stored-with_site_in, IsStored-with_site_in}
use Rattle.instance_store.proofs.ColumnChanges.{remove-insert}
use Rattle.instance_store.proofs.NewPlaces.{where_ok, is_new, comes, site_places-long, site_places-rise}
use Rattle.instance_store.proofs.instance.Instance.insert_site.Goals as goal

pub shift_insert-requires-clause-below_len : goal.shift_insert-requires-clause-below_len
shift_insert-requires-clause-below_len c = λ is.
    let long = site_places-long c.self.inside c.self.invariant c.args.self.now c.self.view_is in
    is_new c.self.inside.site_places.keys c.args.place c.args.row.id c.number.result (omega (arith, long, c.requires.place)) (site_places-rise c.self.inside c.self.invariant c.args.self.now c.self.view_is c.args.place c.args.row c.args.status c.requires.valid) c.number.ensures is

pub invariant_of-self-in-Ok : goal.invariant_of-self-in-Ok
invariant_of-self-in-Ok c =
    let b : Inside = record c.self.inside { sites = c.insert.new.self; site_places = c.shift_insert.new.self } in
    let long = site_places-long c.self.inside c.self.invariant c.args.self.now c.self.view_is in
    let keys = comes c.self.inside.site_places.keys c.args.place c.args.row.id c.number.result (omega (arith, long, c.requires.place)) (site_places-rise c.self.inside c.self.invariant c.args.self.now c.self.view_is c.args.place c.args.row c.args.status c.requires.valid) c.number.ensures c.shift_insert.new.self.keys
    (where_ok _ c.shift_insert.result c.shift_insert.ensures.keys (sym c.is_err.ensures.value ∙ c.if-is_err.false)) in
    IsStored-with_site_in c.self.inside c.self.invariant c.args.self.now c.self.view_is c.args.place c.args.row c.args.status b c.requires.place c.requires.lanes c.requires.valid
    c.in-Ok.ensures.items keys refl refl refl refl refl refl

pub invariant_of-self-in-Err : goal.invariant_of-self-in-Err
invariant_of-self-in-Err c =
    let b : Inside = record c.self.inside { sites = c.insert.new.self; site_places = c.shift_remove_index.new.self } in
    let long = site_places-long c.self.inside c.self.invariant c.args.self.now c.self.view_is in
    let keys = comes c.self.inside.site_places.keys c.args.place c.args.row.id c.number.result (omega (arith, long, c.requires.place)) (site_places-rise c.self.inside c.self.invariant c.args.self.now c.self.view_is c.args.place c.args.row c.args.status c.requires.valid) c.number.ensures c.shift_insert.new.self.keys
    (where_ok _ c.shift_insert.result c.shift_insert.ensures.keys (sym c.is_err.ensures.value ∙ c.if-is_err.false)) in
    IsStored-copy c.self.inside b refl refl refl refl refl c.in-Err.ensures.items
    (c.shift_remove_index.ensures.keys ∙ ap (λ (ids : List ℕ). remove ids c.args.place) keys ∙ remove-insert c.self.inside.site_places.keys c.args.place c.args.row.id (omega (arith, long, c.requires.place))) refl
    c.self.invariant

pub returns-in-Ok-clause-inserted : goal.returns-in-Ok-clause-inserted
returns-in-Ok-clause-inserted c =
    let b : Inside = record c.self.inside { sites = c.insert.new.self; site_places = c.shift_insert.new.self } in
    let long = site_places-long c.self.inside c.self.invariant c.args.self.now c.self.view_is in
    let keys = comes c.self.inside.site_places.keys c.args.place c.args.row.id c.number.result (omega (arith, long, c.requires.place)) (site_places-rise c.self.inside c.self.invariant c.args.self.now c.self.view_is c.args.place c.args.row c.args.status c.requires.valid) c.number.ensures c.shift_insert.new.self.keys
    (where_ok _ c.shift_insert.result c.shift_insert.ensures.keys (sym c.is_err.ensures.value ∙ c.if-is_err.false)) in
    stored-with_site_in c.self.inside c.self.invariant c.args.self.now c.self.view_is c.args.place c.args.row c.args.status b c.requires.place c.requires.lanes c.requires.valid
    c.in-Ok.ensures.items keys refl refl refl refl refl refl

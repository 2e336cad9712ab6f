use Rattle.std.proofs.Common.{List, ℕ, length, remove, refl, sym, ap, subst, ◌∙◌, arith}
use Rattle.std.specs.Vec.{with_items}
use Rattle.instance_store.specs.declared.rows.CustRow.{CustRow}
use Rattle.instance_store.specs.declared.instance.StoredSite.{StoredSite}
use Rattle.instance_store.specs.declared.instance.Instance.TheInside.{Inside}
use Rattle.instance_store.specs.Columns.{AreWith}
use Rattle.instance_store.proofs.StoredLemmas.{customers-seen, stored-copy, IsStored-copy}
use Rattle.instance_store.proofs.ChangeLemmas.{stored-with_customer_in, IsStored-with_customer_in}
use Rattle.instance_store.proofs.ColumnChanges.{remove-insert}
use Rattle.instance_store.proofs.NewPlaces.{where_ok, where_err, written, is_new, comes, cust_places-long, cust_places-rise}
use Rattle.instance_store.proofs.instance.Instance.insert_cust.Goals as goal

pub shift_insert-requires-clause-below_len : goal.shift_insert-requires-clause-below_len
shift_insert-requires-clause-below_len c = λ is.
    let long = cust_places-long c.self.inside c.self.invariant c.args.self.now c.self.view_is in
    is_new c.self.inside.cust_places.keys c.args.place c.args.row.id c.number-id.result (omega (arith, long, c.requires.place)) (cust_places-rise c.self.inside c.self.invariant c.args.self.now c.self.view_is c.args.place c.args.row c.args.lanes.now c.requires.valid) c.number-id.ensures is

pub invariant_of-self-then-is_err-2 : goal.invariant_of-self-then-is_err-2
invariant_of-self-then-is_err-2 c =
    let a = c.self.inside in
    let b : Inside = record c.self.inside { custs = c.remove-then-is_err-2.new.self; sites = with_items c.self.inside.sites c.put_column.new.sites; cust_places = c.shift_remove_index.new.self } in
    let long = cust_places-long a c.self.invariant c.args.self.now c.self.view_is in
    let keys = comes a.cust_places.keys c.args.place c.args.row.id c.number-id.result (omega (arith, long, c.requires.place)) (cust_places-rise a c.self.invariant c.args.self.now c.self.view_is c.args.place c.args.row c.args.lanes.now c.requires.valid) c.number-id.ensures c.shift_insert.new.self.keys
    (where_ok _ c.shift_insert.result c.shift_insert.ensures.keys (sym c.is_err.ensures.value ∙ c.if-is_err.false)) in
    let kept = where_err _ c.put_column.result c.put_column.ensures.kept (sym c.is_err-2.ensures.value ∙ c.if-is_err-2.true) in
    let whole = written a c.put_column.new.sites (ap (λ (xs : List StoredSite). length xs) kept ∙ c.deref_mut.ensures.len) in
    let count = customers-seen a c.self.invariant c.args.self.now c.self.view_is in
    IsStored-copy a b refl refl refl refl
    (c.remove-then-is_err-2.ensures.items ∙ ap (λ (xs : List CustRow). remove xs c.args.place) c.in_ok-insert.ensures.items ∙ remove-insert a.custs.items c.args.place c.args.row (omega (arith, count, c.requires.place)))
    (whole ∙ kept ∙ c.deref_mut.ensures.value)
    refl
    (c.shift_remove_index.ensures.keys ∙ ap (λ (ids : List ℕ). remove ids c.args.place) keys ∙ remove-insert a.cust_places.keys c.args.place c.args.row.id (omega (arith, long, c.requires.place)))
    c.self.invariant

pub returns-then-is_err-2-clause-kept : goal.returns-then-is_err-2-clause-kept
returns-then-is_err-2-clause-kept c =
    let a = c.self.inside in
    let b : Inside = record c.self.inside { custs = c.remove-then-is_err-2.new.self; sites = with_items c.self.inside.sites c.put_column.new.sites; cust_places = c.shift_remove_index.new.self } in
    let long = cust_places-long a c.self.invariant c.args.self.now c.self.view_is in
    let keys = comes a.cust_places.keys c.args.place c.args.row.id c.number-id.result (omega (arith, long, c.requires.place)) (cust_places-rise a c.self.invariant c.args.self.now c.self.view_is c.args.place c.args.row c.args.lanes.now c.requires.valid) c.number-id.ensures c.shift_insert.new.self.keys
    (where_ok _ c.shift_insert.result c.shift_insert.ensures.keys (sym c.is_err.ensures.value ∙ c.if-is_err.false)) in
    let kept = where_err _ c.put_column.result c.put_column.ensures.kept (sym c.is_err-2.ensures.value ∙ c.if-is_err-2.true) in
    let whole = written a c.put_column.new.sites (ap (λ (xs : List StoredSite). length xs) kept ∙ c.deref_mut.ensures.len) in
    let count = customers-seen a c.self.invariant c.args.self.now c.self.view_is in
    stored-copy a b refl refl refl refl
    (c.remove-then-is_err-2.ensures.items ∙ ap (λ (xs : List CustRow). remove xs c.args.place) c.in_ok-insert.ensures.items ∙ remove-insert a.custs.items c.args.place c.args.row (omega (arith, count, c.requires.place)))
    (whole ∙ kept ∙ c.deref_mut.ensures.value)
    refl
    (c.shift_remove_index.ensures.keys ∙ ap (λ (ids : List ℕ). remove ids c.args.place) keys ∙ remove-insert a.cust_places.keys c.args.place c.args.row.id (omega (arith, long, c.requires.place)))
    ∙ c.self.view_is

pub invariant_of-self-else-is_err-2 : goal.invariant_of-self-else-is_err-2
invariant_of-self-else-is_err-2 c =
    let a = c.self.inside in
    let b : Inside = record c.self.inside { custs = c.insert.new.self; sites = with_items c.self.inside.sites c.put_column.new.sites; cust_places = c.shift_insert.new.self } in
    let long = cust_places-long a c.self.invariant c.args.self.now c.self.view_is in
    let keys = comes a.cust_places.keys c.args.place c.args.row.id c.number-id.result (omega (arith, long, c.requires.place)) (cust_places-rise a c.self.invariant c.args.self.now c.self.view_is c.args.place c.args.row c.args.lanes.now c.requires.valid) c.number-id.ensures c.shift_insert.new.self.keys
    (where_ok _ c.shift_insert.result c.shift_insert.ensures.keys (sym c.is_err.ensures.value ∙ c.if-is_err.false)) in
    let put : AreWith (length c.deref_mut.result.now) c.args.place c.args.lanes.now c.deref_mut.result.now c.put_column.new.sites = where_ok _ c.put_column.result c.put_column.ensures.put (sym c.is_err-2.ensures.value ∙ c.if-is_err-2.false) in
    let whole = written a c.put_column.new.sites (put.count ∙ c.deref_mut.ensures.len) in
    IsStored-with_customer_in a c.self.invariant c.args.self.now c.self.view_is c.args.place c.args.row c.args.lanes.now b c.requires.place c.requires.lanes c.requires.valid
    (subst (λ (q : List StoredSite × List StoredSite). AreWith (length q.0) c.args.place c.args.lanes.now q.0 q.1) (λ k. (c.deref_mut.ensures.value k, sym whole k)) put)
    c.in_ok-insert.ensures.items keys refl refl refl refl refl

pub returns-clause-inserted : goal.returns-clause-inserted
returns-clause-inserted c =
    let a = c.self.inside in
    let b : Inside = record c.self.inside { custs = c.insert.new.self; sites = with_items c.self.inside.sites c.put_column.new.sites; cust_places = c.shift_insert.new.self } in
    let long = cust_places-long a c.self.invariant c.args.self.now c.self.view_is in
    let keys = comes a.cust_places.keys c.args.place c.args.row.id c.number-id.result (omega (arith, long, c.requires.place)) (cust_places-rise a c.self.invariant c.args.self.now c.self.view_is c.args.place c.args.row c.args.lanes.now c.requires.valid) c.number-id.ensures c.shift_insert.new.self.keys
    (where_ok _ c.shift_insert.result c.shift_insert.ensures.keys (sym c.is_err.ensures.value ∙ c.if-is_err.false)) in
    let put : AreWith (length c.deref_mut.result.now) c.args.place c.args.lanes.now c.deref_mut.result.now c.put_column.new.sites = where_ok _ c.put_column.result c.put_column.ensures.put (sym c.is_err-2.ensures.value ∙ c.if-is_err-2.false) in
    let whole = written a c.put_column.new.sites (put.count ∙ c.deref_mut.ensures.len) in
    stored-with_customer_in a c.self.invariant c.args.self.now c.self.view_is c.args.place c.args.row c.args.lanes.now b c.requires.place c.requires.lanes c.requires.valid
    (subst (λ (q : List StoredSite × List StoredSite). AreWith (length q.0) c.args.place c.args.lanes.now q.0 q.1) (λ k. (c.deref_mut.ensures.value k, sym whole k)) put)
    c.in_ok-insert.ensures.items keys refl refl refl refl refl

use Rattle.std.proofs.Common.{◌≡◌, ℕ, List, length, refl, sym, ap, subst, ◌∙◌}
use Rattle.std.specs.Vec.{with_items}
use Rattle.instance_store.specs.declared.instance.StoredSite.{StoredSite}
use Rattle.instance_store.specs.declared.instance.Instance.TheInside.{Inside}
use Rattle.instance_store.specs.Columns.{AreWithout}
use Rattle.instance_store.proofs.StoredLemmas.{customer-seen}
use Rattle.instance_store.proofs.ChangeLemmas.{stored-without_customer, IsStored-without_customer}
use Rattle.instance_store.proofs.NewPlaces.{written}
use Rattle.instance_store.proofs.instance.Instance.take_cust.Goals as goal

pub invariant_of-self : goal.invariant_of-self
invariant_of-self c =
    let b : Inside = record c.self.inside { sites = with_items c.self.inside.sites c.drop_column.new.sites; custs = c.remove.new.self; cust_places = c.shift_remove_index.new.self } in
    let rows : c.len-rows.result ≡ length c.self.inside.sites.items = c.len-rows.ensures ∙ sym c.deref_mut.ensures.len ∙ ap (λ (xs : List StoredSite). length xs) c.deref_mut.ensures.value in
    let whole = written c.self.inside c.drop_column.new.sites (c.drop_column.ensures.count ∙ c.deref_mut.ensures.len) in
    IsStored-without_customer c.self.inside c.self.invariant c.args.self.now c.self.view_is c.args.cust b c.requires.place c.requires.others
    (subst (λ (q : ℕ × (List StoredSite × List StoredSite)). AreWithout q.0 c.args.cust q.1.0 q.1.1) (λ k. (rows k, (c.deref_mut.ensures.value k, sym whole k))) c.drop_column.ensures)
    c.remove.ensures.items c.shift_remove_index.ensures.keys refl refl refl refl refl

pub returns-clause-rest : goal.returns-clause-rest
returns-clause-rest c =
    let b : Inside = record c.self.inside { sites = with_items c.self.inside.sites c.drop_column.new.sites; custs = c.remove.new.self; cust_places = c.shift_remove_index.new.self } in
    let rows : c.len-rows.result ≡ length c.self.inside.sites.items = c.len-rows.ensures ∙ sym c.deref_mut.ensures.len ∙ ap (λ (xs : List StoredSite). length xs) c.deref_mut.ensures.value in
    let whole = written c.self.inside c.drop_column.new.sites (c.drop_column.ensures.count ∙ c.deref_mut.ensures.len) in
    stored-without_customer c.self.inside c.self.invariant c.args.self.now c.self.view_is c.args.cust b c.requires.place c.requires.others
    (subst (λ (q : ℕ × (List StoredSite × List StoredSite)). AreWithout q.0 c.args.cust q.1.0 q.1.1) (λ k. (rows k, (c.deref_mut.ensures.value k, sym whole k))) c.drop_column.ensures)
    c.remove.ensures.items c.shift_remove_index.ensures.keys refl refl refl refl refl

pub returns-clause-row : goal.returns-clause-row
returns-clause-row c =
    let seen = customer-seen c.self.inside c.self.invariant c.args.self.now c.self.view_is c.args.cust c.remove.result c.requires.place c.remove.ensures.value in
    λ k. record { id = (seen k).id; demand = (seen k).demand }

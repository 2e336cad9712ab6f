use Rattle.std.proofs.Common.{refl}
use Rattle.location_terms.specs.Instance.{Customer}
use Rattle.instance_store.specs.declared.rows.CustRow.{CustRow}
use Rattle.instance_store.proofs.SiteLemmas.{stored-with_customer, IsStored-with_customer}
use Rattle.instance_store.proofs.instance.Instance.set_demand.Goals as goal

pub invariant_of-self : goal.invariant_of-self
invariant_of-self c =
    let y : CustRow = record { id = c.index_mut.result.now.id; demand = c.args.demand } in
    IsStored-with_customer c.self.inside c.self.invariant c.args.self.now c.self.view_is c.args.cust c.index_mut.result.now y (λ (x : Customer). record x { demand = c.args.demand }) c.requires.place c.index_mut.ensures.value refl refl
    c.requires.small

pub returns : goal.returns
returns c =
    let y : CustRow = record { id = c.index_mut.result.now.id; demand = c.args.demand } in
    stored-with_customer c.self.inside c.self.invariant c.args.self.now c.self.view_is c.args.cust c.index_mut.result.now y (λ (x : Customer). record x { demand = c.args.demand }) c.requires.place c.index_mut.ensures.value refl refl

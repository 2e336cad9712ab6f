use Rattle.std.proofs.Common.{subst, sym}
use Rattle.location_terms.specs.Instance.{IsValid}
use Rattle.instance_edits.proofs.Coming.{IsValid-with_new_customer, customer_comes}
use Rattle.instance_edits.proofs.comings.add_cust.Goals as goal

pub insert_cust-requires-clause-valid : goal.insert_cust-requires-clause-valid
insert_cust-requires-clause-valid c =
    let I = c.args.inst.now in
    let comes = customer_comes I c.set_next_ids.new.self c.next_ids-next_site.result c.new.result c.custs-place.result c.args.demand c.args.lanes.now
    c.next_ids-next_site.ensures c.new.ensures c.custs-place.ensures.count c.set_next_ids.ensures in
    subst IsValid (sym comes) (IsValid-with_new_customer I c.requires.valid c.args.demand c.args.lanes.now c.requires.demand c.requires.small c.requires.room c.requires.ids)

use Rattle.std.proofs.Common.{subst, sym}
use Rattle.location_terms.specs.Instance.{IsValid}
use Rattle.instance_edits.proofs.Coming.{IsValid-with_new_site, site_comes}
use Rattle.instance_edits.proofs.comings.add_site.Goals as goal

pub insert_site-requires-clause-valid : goal.insert_site-requires-clause-valid
insert_site-requires-clause-valid c =
    let I = c.args.inst.now in
    let comes = site_comes I c.set_next_ids.new.self c.next_ids-id.result c.new.result c.sites-place.result c.args.cost c.args.cap c.in_ok-lanes.lanes c.args.lanes.now
    c.next_ids-id.ensures c.new.ensures c.sites-place.ensures.count c.in_ok-lanes.ensures c.set_next_ids.ensures in
    subst IsValid (sym comes) (IsValid-with_new_site I c.requires.valid c.args.cost c.args.cap c.args.lanes.now c.requires.cost c.requires.cap c.requires.small c.requires.room c.requires.ids)

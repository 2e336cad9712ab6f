use Rattle.instance_store.specs.Changes.{with_site_in}
use Rattle.instance_edits.proofs.OrderChanges.{site_comes_in}
use Rattle.instance_edits.proofs.orders.site_went.Goals as goal

pub returns : goal.returns
returns c =
    let J = c.args.inst.now in
    let row = c.args.row.now in
    c.remove_site.ensures.order J (with_site_in J c.args.place row c.args.status) row.id row.lanes c.requires.valid c.requires.before c.requires.order
    (site_comes_in J c.requires.valid c.args.place row c.args.status c.requires.place c.requires.lanes c.requires.before)

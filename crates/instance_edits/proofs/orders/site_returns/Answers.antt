use Rattle.instance_store.specs.Changes.{with_site_in}
use Rattle.instance_edits.proofs.OrderChanges.{site_comes_in, room_for_site}
use Rattle.instance_edits.proofs.orders.site_returns.Goals as goal

pub insert_site-requires-clause-rising : goal.insert_site-requires-clause-rising
insert_site-requires-clause-rising c =
    let J = c.args.inst.now in
    let row = c.args.row.now in
    let I = with_site_in J c.args.place row c.args.status in
    (room_for_site c.args.order.now J I c.args.place row.id row.lanes c.requires.order c.requires.before
    (site_comes_in J c.requires.valid c.args.place row c.args.status c.requires.place c.requires.lanes c.requires.before)).1

pub returns : goal.returns
returns c =
    let J = c.args.inst.now in
    let row = c.args.row.now in
    let I = with_site_in J c.args.place row c.args.status in
    c.insert_site.ensures.order J I c.requires.valid c.requires.before c.requires.order
    (site_comes_in J c.requires.valid c.args.place row c.args.status c.requires.place c.requires.lanes c.requires.before)

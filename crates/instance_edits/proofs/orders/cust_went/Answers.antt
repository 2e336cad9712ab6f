use Rattle.instance_store.specs.Changes.{with_customer_in}
use Rattle.instance_edits.proofs.OrderChanges.{customer_comes_in}
use Rattle.instance_edits.proofs.orders.cust_went.Goals as goal

pub returns : goal.returns
returns c =
    let J = c.args.inst.now in
    let row = c.args.row.now in
    let column = c.args.lanes.now in
    c.remove_cust.ensures.order J (with_customer_in J c.args.place row column) row.id column c.requires.valid c.requires.before c.requires.order
    (customer_comes_in J c.requires.valid c.args.place row column c.requires.place c.requires.lanes c.requires.before)

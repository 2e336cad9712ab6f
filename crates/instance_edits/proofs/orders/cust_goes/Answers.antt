use Rattle.location_terms.specs.Instance.{customer_at}
use Rattle.instance_store.specs.Changes.{column_of}
use Rattle.instance_edits.specs.declared.edit.Inverse.TheVariants.{AddedCust}
use Rattle.instance_edits.specs.Undo.{put_back}
use Rattle.instance_edits.proofs.OrderChanges.{customer_gone}
use Rattle.instance_edits.proofs.orders.cust_goes.Goals as goal

pub returns : goal.returns
returns c =
    let J = c.args.inst.now in
    let x = customer_at J c.args.last in
    c.remove_cust.ensures.order (put_back J (AddedCust x.id)) J x.id (column_of J x.id) c.requires.before c.requires.valid c.requires.order
    (customer_gone J c.requires.valid c.args.last c.requires.place)

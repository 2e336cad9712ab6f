use Rattle.instance_edits.specs.declared.edit.EditFault.TheVariants.{NoCustomer}
use Rattle.instance_edits.proofs.Faults.{lacks_customer-is}
use Rattle.instance_edits.proofs.refusals.no_cust.Goals as goal

pub returns : goal.returns
returns c = λ k. (lacks_customer-is c.args.inst.now c.args.cust _ _ c.cust_at.ensures.known c.is_none.ensures k, NoCustomer)

use Rattle.range_scan.specs.declared.refusal.RangeRefusal.TheVariants as lacking
use Rattle.dualoc_cli.proofs.Proving.{no_cost}
use Rattle.dualoc_cli.proofs.range.by_plan.Goals as goal

pub returns-in-Err-NoSite : goal.returns-in-Err-NoSite
returns-in-Err-NoSite c =
    let says = rw c.in-Err-NoSite.field-0-is at c.in-Err-NoSite.ensures in
    no_cost c.args.inst.now c.args.at c.args.plan.now c.args.tree.now lacking.NoSite says.refused

pub returns-in-Err-NoCustomer : goal.returns-in-Err-NoCustomer
returns-in-Err-NoCustomer c =
    let says = rw c.in-Err-NoCustomer.field-0-is at c.in-Err-NoCustomer.ensures in
    no_cost c.args.inst.now c.args.at c.args.plan.now c.args.tree.now lacking.NoCustomer says.refused

pub returns-in-Err-NoLane : goal.returns-in-Err-NoLane
returns-in-Err-NoLane c =
    let says = rw c.in-Err-NoLane.field-0-is at c.in-Err-NoLane.ensures in
    no_cost c.args.inst.now c.args.at c.args.plan.now c.args.tree.now lacking.NoLane says.refused

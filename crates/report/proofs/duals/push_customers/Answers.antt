use Rattle.std.proofs.Common.{◌∙◌, arith, codes}
use Rattle.report.specs.DualsText.{customer_line}
use Rattle.report.proofs.Lines.{lines_more, same_line}
use Rattle.report.proofs.duals.push_customers.Goals as goal

pub loop-cust-preserved : goal.loop-cust-preserved
loop-cust-preserved c =
    lines_more (customer_line c.args.inst.now c.args.duals.now) _ _ _ _ c.loop-cust.cust c.loop-cust.invariant c.in_ok-push_line.ensures
    (same_line (codes "customer ") _ _ _ _ (c.number-id.ensures ∙ c.cust_id.ensures) c.v.ensures (c.requires.values c.loop-cust.cust (omega (arith, c.custs-cust-end.ensures.count))))

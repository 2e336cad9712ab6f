use Rattle.std.proofs.Common.{arith}
use Rattle.instance_edits.proofs.Faults.{first_is, none_is}
use Rattle.instance_edits.proofs.refusals.first_of.Goals as goal

pub returns-then-fault : goal.returns-then-fault
returns-then-fault c = first_is c.args.faults.now c.loop-fault.fault-index c.loop-fault-test.true c.loop-fault.invariant c.if-fault.true

pub returns : goal.returns
returns c = none_is c.args.faults.now (λ k below. c.loop-fault.invariant k (omega (arith, below, c.loop-fault-test.false)))

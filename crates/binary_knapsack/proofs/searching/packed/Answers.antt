use Rattle.std.proofs.Common.{arith}
use Rattle.binary_knapsack.specs.Loads.{Load}
use Rattle.binary_knapsack.proofs.Most.{most-le_sum}
use Rattle.binary_knapsack.proofs.Steps.{step_taken, step_left}
use Rattle.binary_knapsack.proofs.searching.packed.Goals as goal
use Rattle.binary_knapsack.proofs.searching.packed.Goals.{then-load-room, else-load-room}

pub loop-load-init : goal.loop-load-init
loop-load-init c = omega arith

pub overflow_add-worth : goal.overflow_add-worth
overflow_add-worth c =
    let d : Load = record { weight = 0; worth = 0 } in
    let next = step_taken c.args.loads.now c.loop-load.load-index d c.loop-load.room c.loop-load.worth _ c.loop-load-test.true c.if-load-room.true c.loop-load.invariant in
    omega (arith, next, most-le_sum c.args.loads.now c.args.cap)

pub loop-load-preserved : goal.loop-load-preserved
loop-load-preserved c =
    let d : Load = record { weight = 0; worth = 0 } in
    elim c.if-load-room.branch [
      | then-load-room w ↦ rw (w.room-is, w.worth-is) (step_taken c.args.loads.now c.loop-load.load-index d c.loop-load.room c.loop-load.worth _ c.loop-load-test.true w.if-load-room.true c.loop-load.invariant)
      | else-load-room w ↦ rw (w.room-is, w.worth-is) (step_left c.args.loads.now c.loop-load.load-index d c.loop-load.room c.loop-load.worth _ c.loop-load-test.true c.loop-load.invariant)
    ]

pub returns : goal.returns
returns c = omega (arith, c.loop-load.invariant)

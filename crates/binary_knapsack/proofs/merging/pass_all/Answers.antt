use Rattle.std.proofs.Common.{refl}
use Rattle.binary_knapsack.specs.Loads.{Choice, reach}
use Rattle.binary_knapsack.proofs.Steps.{pass_more, pass_end}
use Rattle.binary_knapsack.proofs.merging.pass_all.Goals as goal

pub loop-i-init : goal.loop-i-init
loop-i-init c = λ rest bound. refl

pub loop-i-preserved : goal.loop-i-preserved
loop-i-preserved c = λ rest bound.
    (let d : Choice = record { room = 0; worth = 0 } in
    pass_more rest c.args.limit.now.best _ (reach rest c.loop-i.next.items) (reach rest c.add.new.next.items) c.args.choices.now c.loop-i.i d c.loop-i-test.true (c.loop-i.invariant rest bound) (c.in_ok-add.ensures rest bound))

pub returns : goal.returns
returns c = λ rest bound. pass_end rest c.args.limit.now.best _ (reach rest c.loop-i.next.items) c.args.choices.now c.loop-i.i c.loop-i-test.false (c.loop-i.invariant rest bound)

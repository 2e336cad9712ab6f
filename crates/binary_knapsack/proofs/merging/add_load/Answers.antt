use Rattle.std.proofs.Common.{◌+◌, ◌^◌, sym, ◌∙◌, List, drop}
use Rattle.binary_knapsack.specs.Loads.{Load, Choice, reach}
use Rattle.binary_knapsack.proofs.Merges.{merge_begin, merge_with, merge_without, merge_end, worth_with_load}
use Rattle.binary_knapsack.proofs.merging.add_load.Goals as goal
use Rattle.binary_knapsack.proofs.merging.add_load.Goals.{in-Some+in_ok-without-in-Some+in_ok-add-in-Some, in-None}

pub loop-choice-init : goal.loop-choice-init
loop-choice-init c =
    let d : Load = record { weight = 0; worth = 0 } in
    merge_begin c.args.loads.now c.args.k d c.requires.place c.args.choices.now c.args.limit.now.best c.clear.new.self.items c.clear.ensures.items

pub take-requires : goal.take-requires
take-requires c =
    let d : Load = record { weight = 0; worth = 0 } in
    let e : Choice = record { room = 0; worth = 0 } in
    worth_with_load c.args.loads.now c.args.k d c.requires.place c.args.choices.now c.loop-choice.choice-index e (2 ^ 126) c.loop-choice-test.true c.requires.small

pub loop-choice-preserved : goal.loop-choice-preserved
loop-choice-preserved c =
    let d : Load = record { weight = 0; worth = 0 } in
    let e : Choice = record { room = 0; worth = 0 } in
    let rest : List Load = drop (c.args.k + 1) c.args.loads.now in
    let j = c.loop-choice.choice-index in
    elim c.match-take.branch [
      | in-Some+in_ok-without-in-Some+in_ok-add-in-Some w ↦
          rw (w.next-is, w.without-is) (merge_with c.args.loads.now c.args.k d c.requires.place c.args.choices.now c.args.limit.now.best
          (reach rest c.loop-choice.next.items) (reach rest w.pass_on.new.next.items) (reach rest w.add.new.next.items)
          (reach rest (drop c.loop-choice.without c.args.choices.now)) (reach rest (drop w.in_ok-without-in-Some.without c.args.choices.now)) _
          j e w.in-Some.with c.loop-choice-test.true (sym c.take.ensures ∙ w.in-Some.is)
          (w.in_ok-without-in-Some.ensures rest c.requires.bound) (w.in_ok-add-in-Some.ensures rest c.requires.bound) c.loop-choice.invariant)
      | in-None w ↦
          rw (w.next-is, w.without-is) (merge_without c.args.loads.now c.args.k d c.requires.place c.args.choices.now c.args.limit.now.best
          (reach rest c.loop-choice.next.items) (reach rest (drop c.loop-choice.without c.args.choices.now)) _
          j e c.loop-choice-test.true (sym c.take.ensures ∙ w.in-None.is) c.loop-choice.invariant)
    ]

pub returns : goal.returns
returns c =
    let d : Load = record { weight = 0; worth = 0 } in
    let rest : List Load = drop (c.args.k + 1) c.args.loads.now in
    c.in_ok-pass_all.ensures rest c.requires.bound
    ∙ merge_end c.args.loads.now c.args.k d c.requires.place c.args.choices.now c.args.limit.now.best
    (reach rest c.loop-choice.next.items) (reach rest (drop c.loop-choice.without c.args.choices.now)) _
    c.loop-choice.choice-index c.loop-choice-test.false c.loop-choice.invariant

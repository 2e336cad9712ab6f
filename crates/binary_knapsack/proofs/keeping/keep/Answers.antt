use Rattle.std.proofs.Common.{sym, ap, ◌∙◌}
use Rattle.std.proofs.lemmas.List.{take_all}
use Rattle.binary_knapsack.specs.Loads.{Item, kept}
use Rattle.binary_knapsack.proofs.Kept.{keep_paying, keep_idle}
use Rattle.binary_knapsack.proofs.keeping.keep.Goals as goal
use Rattle.binary_knapsack.proofs.keeping.keep.Goals.{then-may_pay+in_ok-push, else-may_pay}
use Rattle.std.proofs.Common.{pos}

pub loop-item-preserved : goal.loop-item-preserved
loop-item-preserved c =
    let d : Item = record { weight = 0; worth = pos 0 } in
    let i = c.loop-item.item-index in
    elim c.if-may_pay.branch [
      | then-may_pay+in_ok-push w ↦ rw w.loads-is (w.in_ok-push.ensures.items ∙ keep_paying c.args.cap c.args.items.now i d _ _ c.loop-item-test.true c.loop-item.invariant (sym c.may_pay.ensures ∙ w.if-may_pay.true) w.as_load.ensures)
      | else-may_pay w ↦ rw w.loads-is (keep_idle c.args.cap c.args.items.now i d _ c.loop-item-test.true c.loop-item.invariant (sym c.may_pay.ensures ∙ w.if-may_pay.false))
    ]

pub returns : goal.returns
returns c = c.loop-item.invariant ∙ ap (kept c.args.cap) (take_all c.loop-item.item-index c.args.items.now c.loop-item-test.false)

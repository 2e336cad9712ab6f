use Rattle.std.proofs.Common.{length, ap, ◌∙◌, sym, arith}
use Rattle.plan_search.specs.Flags.{is_set}
use Rattle.plan_search.proofs.Flagging.{passing_short, passing_no, count_yes}
use Rattle.plan_search.proofs.flags.flag_count.Goals as goal
use Rattle.plan_search.proofs.flags.flag_count.Goals.{then-flags-place, else-flags-place}

pub overflow_add-count : goal.overflow_add-count
overflow_add-count c = omega (arith, c.loop-place.invariant, passing_short (is_set c.args.flags.now) c.loop-place.place, c.loop-place-test.true)

pub loop-place-preserved : goal.loop-place-preserved
loop-place-preserved c =
    let set = is_set c.args.flags.now in
    let i = c.loop-place.place in
    elim c.if-flags-place.branch [
      | then-flags-place w ↦ omega (arith, w.count-is, count_yes set i w.if-flags-place.true, c.loop-place.invariant)
      | else-flags-place w ↦ w.count-is ∙ c.loop-place.invariant ∙ sym (ap length (passing_no set i w.if-flags-place.false))
    ]

pub returns-clause-small : goal.returns-clause-small
returns-clause-small c = omega (arith, c.loop-place.invariant, passing_short (is_set c.args.flags.now) c.loop-place.place, c.loop-place.auto.place-end)

use Rattle.std.proofs.Common.{◌-◌, ◌+◌, false, arith}
use Rattle.std.proofs.Math.ListN.{set}
use Rattle.plan_search.proofs.Flagging.{cut_skips, cut_keeps, cut_drops, cut_as, cut_done}
use Rattle.plan_search.proofs.flags.keep_first.Goals as goal
use Rattle.plan_search.proofs.flags.keep_first.Goals.{then-flags-place+then-left-eq0, then-flags-place+else-left-eq0, else-flags-place}

pub loop-place-preserved : goal.loop-place-preserved
loop-place-preserved c =
    let most = c.args.most in
    let old = c.args.flags.now in
    let new = c.loop-place.flags in
    let i = c.loop-place.place in
    let left = c.loop-place.left in
    elim c.if-flags-place.branch [
      | then-flags-place+then-left-eq0 w ↦
          cut_as most (i + 1) left _ old (set new i false) _ w.left-is w.flags-is
          (cut_drops most i left old new c.loop-place.invariant w.if-flags-place.true (omega (arith, c.loop-place-test.true, c.loop-place.auto.flags)) w.if-left-eq0.true)
      | then-flags-place+else-left-eq0 w ↦ cut_as most (i + 1) (left - 1) _ old new _ w.left-is w.flags-is (cut_keeps most i left old new c.loop-place.invariant w.if-flags-place.true (omega (arith, w.if-left-eq0.false)))
      | else-flags-place w ↦ cut_as most (i + 1) left _ old new _ w.left-is w.flags-is (cut_skips most i left old new c.loop-place.invariant w.if-flags-place.false)
    ]

pub returns : goal.returns
returns c =
    let end = c.loop-place.place in
    record {
      long = c.loop-place.invariant.long;
      exact = cut_done c.args.most end c.loop-place.left c.args.flags.now c.loop-place.flags (omega (arith, c.loop-place-test.false, c.loop-place.auto.place-end)) c.loop-place.invariant;
    }

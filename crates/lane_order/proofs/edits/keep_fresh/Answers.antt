use Rattle.std.proofs.Common.{ℕ, ◌≤◌, List, All, arith}
use Rattle.lane_order.specs.Listed.{Listed, IsFresh}
use Rattle.lane_order.proofs.Lists.{written, fresh_grown, fresh_wide}
use Rattle.lane_order.proofs.edits.keep_fresh.Goals as goal

pub returns-in_err-reserve_each-clause-kept : goal.returns-in_err-reserve_each-clause-kept
returns-in_err-reserve_each-clause-kept c =
    let old : List Listed = c.args.fresh.now.items in
    let new : List Listed = c.reserve_each.new.lists in
    written (λ xs. (room : ℕ) → room ≤ c.args.lanes → All (IsFresh room) old → All (IsFresh room) xs) old c.deref_mut.result.now new c.args.fresh.now.len c.deref_mut.ensures.value c.deref_mut.ensures.len c.in_err-reserve_each.ensures.kept
    (λ grown room _ fresh. fresh_grown old new grown room fresh)

pub loop-more-init : goal.loop-more-init
loop-more-init c =
    let old : List Listed = c.args.fresh.now.items in
    let new : List Listed = c.reserve_each.new.lists in
    record {
      kept =
          written (λ xs. (room : ℕ) → room ≤ c.args.lanes → All (IsFresh room) old → All (IsFresh room) xs) old c.deref_mut.result.now new c.args.fresh.now.len c.deref_mut.ensures.value c.deref_mut.ensures.len c.in_ok-reserve_each.ensures.kept
          (λ grown room _ fresh. fresh_grown old new grown room fresh);
      room =
          written (λ xs. All (IsFresh 0) old → All (IsFresh c.args.lanes) xs) old c.deref_mut.result.now new c.args.fresh.now.len c.deref_mut.ensures.value c.deref_mut.ensures.len c.in_ok-reserve_each.ensures.kept
          (λ grown fresh. fresh_wide old new grown c.args.lanes c.in_ok-reserve_each.ensures.room fresh);
      count = omega arith;
      many = omega (arith, c.len-more.ensures);
    }

pub loop-more-preserved : goal.loop-more-preserved
loop-more-preserved c =
    let i = c.loop-more.invariant in
    let e = c.in_ok-push_fresh.ensures in
    record {
      kept = λ room small fresh. e.kept room small (i.kept room small fresh);
      room = λ fresh. e.kept c.args.lanes (omega arith) (i.room fresh);
      count = omega (arith, e.count, i.count);
      many = omega (arith, e.longer, i.many);
    }

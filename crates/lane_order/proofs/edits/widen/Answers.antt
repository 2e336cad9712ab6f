use Rattle.std.proofs.Common.{◌≤◌, List, All, subst}
use Rattle.lane_order.specs.Listed.{Listed}
use Rattle.lane_order.specs.Grown.{HaveGrown}
use Rattle.lane_order.proofs.Lists.{written}
use Rattle.lane_order.proofs.edits.widen.Goals as goal

pub returns-in_err-reserve_each-clause-kept : goal.returns-in_err-reserve_each-clause-kept
returns-in_err-reserve_each-clause-kept c =
    let new : List Listed = c.reserve_each.new.lists in
    written (HaveGrown c.args.lists.now.items) c.reserve.new.self.items c.deref_mut.result.now new c.reserve.new.self.len c.deref_mut.ensures.value c.deref_mut.ensures.len c.in_err-reserve_each.ensures.kept
    (λ grown. subst (λ (xs : List Listed). HaveGrown xs new) c.reserve.ensures.items grown)

pub returns-clause-kept : goal.returns-clause-kept
returns-clause-kept c =
    let new : List Listed = c.reserve_each.new.lists in
    written (HaveGrown c.args.lists.now.items) c.reserve.new.self.items c.deref_mut.result.now new c.reserve.new.self.len c.deref_mut.ensures.value c.deref_mut.ensures.len c.in_ok-reserve_each.ensures.kept
    (λ grown. subst (λ (xs : List Listed). HaveGrown xs new) c.reserve.ensures.items grown)

pub returns-clause-lanes : goal.returns-clause-lanes
returns-clause-lanes c =
    written (All (λ l. c.args.more ≤ l.spare)) c.reserve.new.self.items c.deref_mut.result.now c.reserve_each.new.lists c.reserve.new.self.len c.deref_mut.ensures.value c.deref_mut.ensures.len c.in_ok-reserve_each.ensures.kept
    (λ _. c.in_ok-reserve_each.ensures.room)

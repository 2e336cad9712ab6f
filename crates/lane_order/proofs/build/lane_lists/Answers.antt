use Rattle.std.proofs.Common.{◌+◌, length, sym, ap, subst, ◌∙◌}
use Rattle.std.proofs.lemmas.List.{length_push}
use Rattle.lane_order.specs.Building.{AreSortedLanes}
use Rattle.lane_order.proofs.Lists.{one_more_list}
use Rattle.lane_order.proofs.build.lane_lists.Goals as goal

pub loop-cust-preserved : goal.loop-cust-preserved
loop-cust-preserved c =
    let list = c.in_ok-from_slice.field-0 in
    record {
      count = ap length c.in_ok-push.ensures.items ∙ length_push c.loop-cust.lists.items list ∙ ap (λ n. n + 1) c.loop-cust.invariant.count;
      each =
          one_more_list c.args.inst.now c.loop-cust.cust c.loop-cust.lists.items c.push.new.self.items list c.loop-cust.invariant.count c.loop-cust.invariant.each
          (subst (AreSortedLanes c.args.inst.now c.loop-cust.cust) (sym (c.in_ok-from_slice.ensures ∙ c.deref.ensures.value)) c.in_ok-gather.ensures) c.in_ok-push.ensures.items;
    }

use Rattle.std.proofs.Common.{ℕ, List, Option, None, slice_index_or, subst}
use Rattle.lane_order.specs.Listed.{Listed, HasLaneMore}
use Rattle.lane_order.proofs.OneByOne.{count-next, done-next, left-next}
use Rattle.lane_order.proofs.edits.insert_site.Goals as goal

pub loop-cust-preserved : goal.loop-cust-preserved
loop-cust-preserved c =
    let Q : ℕ → Listed → Listed → Type 0 = λ j old new. HasLaneMore c.args.place (slice_index_or c.args.lanes.now j None) old new in
    let old : List Listed = c.args.lists.now in
    let lists : List Listed = c.loop-cust.lists in
    let new : Listed = c.insert_site.new.self in
    let was : Listed = c.index-lists-cust.result in
    let one = subst (λ (o : Option ℕ). HasLaneMore c.args.place o (slice_index_or lists c.loop-cust.cust was) new) c.get.ensures.exact c.insert_site.ensures in
    let i = c.loop-cust.invariant in
    record {
      count = count-next Q old lists c.loop-cust.cust was new c.loop-cust-test.true i.count i.done i.left one;
      done = done-next Q old lists c.loop-cust.cust was new c.loop-cust-test.true i.count i.done i.left one;
      left = left-next Q old lists c.loop-cust.cust was new c.loop-cust-test.true i.count i.done i.left one;
    }

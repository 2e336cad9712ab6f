use Rattle.std.proofs.Common.{ℕ, List}
use Rattle.lane_order.specs.Listed.{Listed, HasLaneLess}
use Rattle.lane_order.proofs.OneByOne.{count-next, done-next, left-next}
use Rattle.lane_order.proofs.edits.remove_site.Goals as goal

pub loop-cust-preserved : goal.loop-cust-preserved
loop-cust-preserved c =
    let Q : ℕ → Listed → Listed → Type 0 = λ _ old new. HasLaneLess c.args.place old new in
    let old : List Listed = c.args.lists.now in
    let lists : List Listed = c.loop-cust.lists in
    let new : Listed = c.remove_site.new.self in
    let was : Listed = c.index-lists-cust.result in
    let i = c.loop-cust.invariant in
    record {
      count = count-next Q old lists c.loop-cust.cust was new c.loop-cust-test.true i.count i.done i.left c.remove_site.ensures;
      done = done-next Q old lists c.loop-cust.cust was new c.loop-cust-test.true i.count i.done i.left c.remove_site.ensures;
      left = left-next Q old lists c.loop-cust.cust was new c.loop-cust-test.true i.count i.done i.left c.remove_site.ensures;
    }

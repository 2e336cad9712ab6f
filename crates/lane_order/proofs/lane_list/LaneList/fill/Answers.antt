use Rattle.std.proofs.Common.{◌≤◌, ℕ, Option, None, get_or, length, subst, arith}
use Rattle.lane_order.specs.Listed.{IsLaneFrom}
use Rattle.lane_order.proofs.Shifted.{none-beyond, known-next, each-next}
use Rattle.lane_order.proofs.lane_list.LaneList.fill.Goals as goal

pub add_lane-requires-clause-room : goal.add_lane-requires-clause-room
add_lane-requires-clause-room c = omega (arith, c.requires.fresh.room, c.loop-site.invariant.spare, c.loop-site-test.true, c.len-site-end.ensures)

pub add_lane-requires-clause-none : goal.add_lane-requires-clause-none
add_lane-requires-clause-none c = none-beyond c.loop-site.site c.loop-site.self.lanes c.loop-site.invariant.known

pub loop-site-preserved : goal.loop-site-preserved
loop-site-preserved c =
    let i = c.loop-site.invariant in
    let one = subst (λ (o : Option ℕ). IsLaneFrom c.loop-site.site o c.add_lane.new.self.lanes) c.get.ensures.exact c.add_lane.ensures.lane in
    record {
      known = known-next c.loop-site.site c.loop-site.self.lanes i.known c.add_lane.new.self.lanes c.add_lane.ensures.others;
      ascending = c.add_lane.ensures.ascending;
      each = each-next c.loop-site.site c.loop-site.self.lanes i.known c.add_lane.new.self.lanes c.add_lane.ensures.others (λ k. get_or c.args.lanes.now k None) i.each one;
      spare = omega (arith, i.spare, c.add_lane.ensures.spare);
    }

pub returns : goal.returns
returns c =
    let i = c.loop-site.invariant in
    let inside : c.loop-site.site ≤ length c.args.lanes.now = omega (arith, c.loop-site.auto.site-end, c.len-site-end.ensures) in
    record {
      known = λ k d b. omega (arith, inside, i.known k d b);
      ascending = i.ascending;
      each = λ k b. i.each k (omega (arith, b, c.loop-site-test.false, c.len-site-end.ensures));
      spare = omega (arith, i.spare, inside);
    }

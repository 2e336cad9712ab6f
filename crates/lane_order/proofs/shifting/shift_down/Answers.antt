use Rattle.std.proofs.Common.{arith, List, set, get_or, ap, ◌∙◌}
use Rattle.std.proofs.lemmas.List.{get_or_default}
use Rattle.std.proofs.lemmas.List.Edits.{map_over_more}
use Rattle.lane_order.specs.declared.order.PlacedLane.{PlacedLane}
use Rattle.lane_order.specs.Listed.{lane_down}
use Rattle.lane_order.proofs.Shifted.{no_lane, long-as, all-changed}
use Rattle.lane_order.proofs.shifting.shift_down.Goals as goal

pub loop-k-preserved : goal.loop-k-preserved
loop-k-preserved c =
    let xs : List PlacedLane = c.args.lanes.now in
    let ys : List PlacedLane = c.loop-k.lanes in
    let x : PlacedLane = get_or ys c.loop-k.k no_lane in
    ap (λ (l : PlacedLane). set ys c.loop-k.k l) c.down.ensures
    ∙ map_over_more (lane_down c.args.place) xs ys c.loop-k.k x c.loop-k-test.true c.loop-k.invariant (get_or_default ys c.loop-k.k no_lane x (omega (arith, c.loop-k-test.true, long-as (lane_down c.args.place) xs ys c.loop-k.k c.loop-k.invariant)))

pub returns : goal.returns
returns c = all-changed (lane_down c.args.place) c.args.lanes.now c.loop-k.lanes c.loop-k.k c.loop-k.invariant c.loop-k-test.false

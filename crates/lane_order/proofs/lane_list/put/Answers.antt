use Rattle.std.proofs.Common.{◌≡◌, ◌≤◌, List, insert, length, AllPairs, sym, ap, subst, arith}
use Rattle.std.specs.List.Sorted.{IsPartitionPoint}
use Rattle.lane_order.specs.declared.order.PlacedLane.{PlacedLane}
use Rattle.lane_order.specs.Listed.{IsPlacedBefore, IsNotBefore, IsWith}
use Rattle.lane_order.proofs.Placing.{ahead, behind, all_pairs_insert, with_one}
use Rattle.lane_order.proofs.lane_list.put.Goals as goal

pub returns-clause-ascending : goal.returns-clause-ascending
returns-clause-ascending c =
    let lanes = c.args.lanes.now.items in
    let lane : PlacedLane = c.args.lane in
    let place = c.place_of-place.result in
    let within : place ≤ length lanes = omega (arith, c.place_of-place.ensures.within, ap length c.deref.ensures.value) in
    let point = subst (λ (xs : List PlacedLane). IsPartitionPoint (λ o. IsPlacedBefore o lane) (λ o. IsNotBefore o lane) xs place) c.deref.ensures.value c.place_of-place.ensures.parted in
    let items : c.insert.new.self.items ≡ insert lanes place lane = c.in-Ok.ensures.items in
    subst (AllPairs IsPlacedBefore) (sym items)
    (all_pairs_insert IsPlacedBefore lanes place lane c.requires.ascending within (ahead lanes c.requires.ascending lane place point) (behind lanes c.requires.ascending lane place point c.requires.new))

pub returns-clause-lanes : goal.returns-clause-lanes
returns-clause-lanes c =
    let lanes = c.args.lanes.now.items in
    let items : c.insert.new.self.items ≡ insert lanes c.place_of-place.result c.args.lane = c.in-Ok.ensures.items in
    subst (IsWith c.args.lane lanes) (sym items) (with_one lanes c.place_of-place.result c.args.lane)

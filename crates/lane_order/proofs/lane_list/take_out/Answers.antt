use Rattle.std.proofs.Common.{◌≡◌, ◌<◌, List, length, get_or, AllPairs, sym, ap, subst, ◌∙◌, arith}
use Rattle.std.proofs.lemmas.List.Quantifiers.{all_pairs_remove}
use Rattle.std.specs.List.Sorted.{IsPartitionPoint}
use Rattle.lane_order.specs.declared.order.PlacedLane.{PlacedLane}
use Rattle.lane_order.specs.Listed.{IsPlacedBefore, IsNotBefore, IsWithout}
use Rattle.lane_order.proofs.Placing.{there_at, without_one}
use Rattle.lane_order.proofs.lane_list.take_out.Goals as goal

pub remove-requires : goal.remove-requires
remove-requires c =
    let lanes = c.args.lanes.now.items in
    let lane : PlacedLane = c.args.lane in
    let place = c.place_of-place.result in
    let point = subst (λ (xs : List PlacedLane). IsPartitionPoint (λ o. IsPlacedBefore o lane) (λ o. IsNotBefore o lane) xs place) c.deref.ensures.value c.place_of-place.ensures.parted in
    let at : c.requires.there.0 ≡ place = there_at lanes c.requires.ascending lane place point c.requires.there in
    let there = c.requires.there.1 in
    omega (arith, there, at, c.deref.ensures.len, ap length c.deref.ensures.value)

pub returns-clause-ascending : goal.returns-clause-ascending
returns-clause-ascending c =
    let lanes = c.args.lanes.now.items in
    let lane : PlacedLane = c.args.lane in
    let place = c.place_of-place.result in
    let point = subst (λ (xs : List PlacedLane). IsPartitionPoint (λ o. IsPlacedBefore o lane) (λ o. IsNotBefore o lane) xs place) c.deref.ensures.value c.place_of-place.ensures.parted in
    let at : c.requires.there.0 ≡ place = there_at lanes c.requires.ascending lane place point c.requires.there in
    let there = c.requires.there.1 in
    let within : place < length lanes = omega (arith, there, at) in
    subst (AllPairs IsPlacedBefore) (sym c.remove.ensures.items) (all_pairs_remove IsPlacedBefore lanes place within c.requires.ascending)

pub returns-clause-lanes : goal.returns-clause-lanes
returns-clause-lanes c =
    let lanes = c.args.lanes.now.items in
    let lane : PlacedLane = c.args.lane in
    let place = c.place_of-place.result in
    let point = subst (λ (xs : List PlacedLane). IsPartitionPoint (λ o. IsPlacedBefore o lane) (λ o. IsNotBefore o lane) xs place) c.deref.ensures.value c.place_of-place.ensures.parted in
    let at : c.requires.there.0 ≡ place = there_at lanes c.requires.ascending lane place point c.requires.there in
    let there = c.requires.there.1 in
    let within : place < length lanes = omega (arith, there, at) in
    let is : get_or lanes place lane ≡ lane = ap (λ k. get_or lanes k lane) (sym at) ∙ c.requires.there.2 in
    subst (IsWithout lane lanes) (sym c.remove.ensures.items) (without_one lanes place lane c.requires.ascending within is)

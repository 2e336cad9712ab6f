use Rattle.std.proofs.Common.{rules, ◌≡◌, sym, arith, slice_index}
use Rattle.leaf_repair.proofs.Placing.{placed_at, unplaced}
use Rattle.leaf_repair.proofs.places.first_place.Goals as goal

pub returns-then-before-at : goal.returns-then-before-at
returns-then-before-at c =
    let here : slice_index c.args.before.now c.loop-at.at ≡ c.args.id = search rules in
    sym (placed_at c.args.id c.args.before.now c.loop-at.at (omega arith) c.loop-at.invariant here)

pub returns : goal.returns
returns c = sym (unplaced c.args.id c.args.before.now (λ i b. c.loop-at.invariant i (omega (arith, b))))

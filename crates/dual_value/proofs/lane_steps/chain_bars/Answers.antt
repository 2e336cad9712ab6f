use Rattle.std.proofs.Common.{◌≡◌, ◌-◌, ◌+◌, ◌∙◌, sym, ap, arith, get_or}
use Rattle.location_terms.specs.Box.{bars_lane}
use Rattle.dual_value.proofs.Chains.{walk_starts, walk_on, walk_ends, walk_finds}
use Rattle.dual_value.proofs.lane_steps.chain_bars.Goals as goal

pub loop-at-init : goal.loop-at-init
loop-at-init c = walk_starts c.args.path.now c.args.site c.args.cust c.args.last c.requires.start

pub returns : goal.returns
returns c = sym (walk_ends c.args.path.now c.args.site c.args.cust c.loop-at.at c.loop-at.invariant (omega arith))

pub returns-then-bars_lane : goal.returns-then-bars_lane
returns-then-bars_lane c =
    let at = c.loop-at.at in
    let s = c.args.site in
    let t = c.args.cust in
    let step = c.index-steps-at.result in
    let before : at ≡ (at - 1) + 1 = omega arith in
    let here : step ≡ get_or c.args.path.now (at - 1) step = c.index-steps-at.is ∙ ap (λ xs. get_or xs (at - 1) step) c.as_slice-steps.ensures in
    sym (walk_finds c.args.path.now s t at (at - 1) step c.loop-at.invariant before (ap (bars_lane s t) (sym here) ∙ sym c.bars_lane.ensures ∙ c.if-bars_lane.true))

pub loop-at-preserved : goal.loop-at-preserved
loop-at-preserved c =
    let path = c.args.path.now in
    let at = c.loop-at.at in
    let s = c.args.site in
    let t = c.args.cust in
    let step = c.index-steps-at.result in
    let before : at ≡ (at - 1) + 1 = omega arith in
    let here : step ≡ get_or path (at - 1) step = c.index-steps-at.is ∙ ap (λ xs. get_or xs (at - 1) step) c.as_slice-steps.ensures in
    let next = c.requires.next (at - 1) (omega (arith, before, c.loop-at.invariant.within)) (c.loop-at.invariant.names (at - 1) before) in
    walk_on path s t at (at - 1) (get_or c.args.befores.now (at - 1) 0) step c.loop-at.invariant before next.1 (ap (bars_lane s t) (sym here) ∙ sym c.bars_lane.ensures ∙ c.if-bars_lane.false)

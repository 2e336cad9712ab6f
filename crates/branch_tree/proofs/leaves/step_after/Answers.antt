use Rattle.std.proofs.Common.{◌≡◌, ◌+◌, ◌-◌, ◌<◌, ◌∙◌, sym, ap, arith, length, Some}
use Rattle.std.specs.Prelude.{slice_get}
use Rattle.branch_tree.specs.Above.{settled, step_below}
use Rattle.branch_tree.proofs.Above.{reached, back_none, longer_some, here_some, above_some, done_most, none_above}
use Rattle.branch_tree.proofs.leaves.step_after.Goals as goal

pub returns-then-depth-at : goal.returns-then-depth-at
returns-then-depth-at c =
    let before : c.loop-place.place ≡ (c.loop-place.place - 1) + 1 = omega arith in
    let within : c.loop-place.place - 1 < length c.args.nodes.now = omega arith in
    let last : c.loop-place.depth - 1 ≡ c.args.at = omega arith in
    sym c.loop-place.invariant.same
    ∙ here_some c.args.nodes.now c.loop-place.place (c.loop-place.place - 1) c.index-nodes-place.result c.index-nodes-place.is before within c.loop-place.done c.done_before-done.result c.args.at c.loop-place.depth c.in-Some.step (sym c.in-Some.is ∙ c.step_below-step.ensures) c.done_before-done.ensures c.loop-place.invariant.counted last c.loop-place.invariant.above

pub loop-place-preserved-else-depth-at : goal.loop-place-preserved-else-depth-at
loop-place-preserved-else-depth-at c =
    let before : c.loop-place.place ≡ (c.loop-place.place - 1) + 1 = omega arith in
    let within : c.loop-place.place - 1 < length c.args.nodes.now = omega arith in
    let step : Some c.in-Some.step ≡ step_below c.index-nodes-place.result c.loop-place.done = sym c.in-Some.is ∙ c.step_below-step.ensures in
    let longer : length (settled c.loop-place.done (reached c.args.nodes.now c.loop-place.place)) ≡ length (settled c.done_before-done.result (reached c.args.nodes.now (c.loop-place.place - 1))) + 1 = longer_some c.args.nodes.now c.loop-place.place (c.loop-place.place - 1) c.index-nodes-place.result c.index-nodes-place.is before within c.loop-place.done c.done_before-done.result c.in-Some.step step c.done_before-done.ensures in
    record {
      counted = omega arith;
      above = omega arith;
      same = above_some c.args.nodes.now c.loop-place.place (c.loop-place.place - 1) c.index-nodes-place.result c.index-nodes-place.is before within c.loop-place.done c.done_before-done.result c.args.at c.in-Some.step step c.done_before-done.ensures (omega arith) ∙ c.loop-place.invariant.same;
      done_fits = omega (arith, done_most c.index-nodes-place.result c.loop-place.done);
    }

pub loop-place-preserved : goal.loop-place-preserved
loop-place-preserved c =
    let before : c.loop-place.place ≡ (c.loop-place.place - 1) + 1 = omega arith in
    let within : c.loop-place.place - 1 < length c.args.nodes.now = omega arith in
    let back : settled c.loop-place.done (reached c.args.nodes.now c.loop-place.place) ≡ settled c.done_before-done.result (reached c.args.nodes.now (c.loop-place.place - 1)) = back_none c.args.nodes.now c.loop-place.place (c.loop-place.place - 1) c.index-nodes-place.result c.index-nodes-place.is before within c.loop-place.done c.done_before-done.result (sym c.in_default.is ∙ c.step_below-step.ensures) c.done_before-done.ensures in
    record {
      counted = c.loop-place.invariant.counted ∙ ap length back;
      above = c.loop-place.invariant.above;
      same = sym (ap (λ q. slice_get q c.args.at) back) ∙ c.loop-place.invariant.same;
      done_fits = omega (arith, done_most c.index-nodes-place.result c.loop-place.done);
    }

pub unreachable-requires : goal.unreachable-requires
unreachable-requires c = omega (arith, none_above c.args.nodes.now c.loop-place.done c.loop-place.place (omega arith))

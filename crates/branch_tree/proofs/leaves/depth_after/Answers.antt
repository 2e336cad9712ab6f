use Rattle.std.proofs.Common.{◌≡◌, ◌+◌, ◌-◌, ◌<◌, ◌∙◌, sym, ap, arith, length}
use Rattle.branch_tree.proofs.Above.{back_none, longer_some, done_most, something, nothing, none_above}
use Rattle.branch_tree.proofs.leaves.depth_after.Goals as goal

pub loop-place-preserved-then-is_some : goal.loop-place-preserved-then-is_some
loop-place-preserved-then-is_some c =
    let i = c.loop-place.place - 1 in
    let before : c.loop-place.place ≡ (c.loop-place.place - 1) + 1 = omega arith in
    let within : c.loop-place.place - 1 < length c.args.nodes.now = omega arith in
    let step = something c.step_below-step.result (sym c.is_some.ensures ∙ c.if-is_some.true) in
    record {
      counted = omega (arith, longer_some c.args.nodes.now c.loop-place.place i c.index-nodes-place.result c.index-nodes-place.is before within c.loop-place.done c.done_before-done.result step.0 (step.1 ∙ c.step_below-step.ensures) c.done_before-done.ensures);
      depth_fits = omega arith;
      done_fits = omega (arith, done_most c.index-nodes-place.result c.loop-place.done);
    }

pub loop-place-preserved : goal.loop-place-preserved
loop-place-preserved c =
    let i = c.loop-place.place - 1 in
    let before : c.loop-place.place ≡ (c.loop-place.place - 1) + 1 = omega arith in
    let within : c.loop-place.place - 1 < length c.args.nodes.now = omega arith in
    record {
      counted = omega (arith, ap length (back_none c.args.nodes.now c.loop-place.place i c.index-nodes-place.result c.index-nodes-place.is before within c.loop-place.done c.done_before-done.result (nothing c.step_below-step.result (sym c.is_some.ensures ∙ c.if-is_some.false) ∙ c.step_below-step.ensures) c.done_before-done.ensures));
      depth_fits = omega arith;
      done_fits = omega (arith, done_most c.index-nodes-place.result c.loop-place.done);
    }

pub returns : goal.returns
returns c = omega (arith, none_above c.args.nodes.now c.loop-place.done c.loop-place.place (omega arith))

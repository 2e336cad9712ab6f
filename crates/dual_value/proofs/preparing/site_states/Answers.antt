use Rattle.std.proofs.Common.{take}
use Rattle.dual_value.specs.PreparedSites.{AreStates}
use Rattle.dual_value.proofs.Settling.{step_taken}
use Rattle.dual_value.proofs.preparing.site_states.Goals as goal

pub loop-step-preserved : goal.loop-step-preserved
loop-step-preserved c =
    step_taken (AreStates c.args.inst.now) c.args.path.now c.as_slice-step-items.result.now c.loop-step.step-index c.step-item.result c.loop-step.states.items c.deref_mut.result.now c.settle.new.states c.loop-step.states.len
    c.as_slice-step-items.ensures c.loop-step-test.true c.step-item.is c.loop-step.states.ok.0 c.deref_mut.ensures.value c.settle.ensures.long c.loop-step.invariant
    (c.settle.ensures.settled (take c.loop-step.step-index c.args.path.now))

use Rattle.std.proofs.Common.{◌≡◌, length, take}
use Rattle.dual_value.specs.LaneSteps.{AreChains}
use Rattle.dual_value.proofs.lane_steps.chained.Given as goal

abbrev pub invariant-loop-step : goal.invariant-loop-step
invariant-loop-step l = record {
  long : length l.lasts ≡ length l.inst.customers;
  count : length l.befores.items ≡ l.step-index;
  chains : AreChains l.inst (take l.step-index l.path) l.lasts l.befores.items;
}

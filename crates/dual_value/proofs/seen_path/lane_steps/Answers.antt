use Rattle.std.proofs.Common.{sym, ◌∙◌}
use Rattle.dual_value.proofs.Unbarred.{none_barred}
use Rattle.dual_value.proofs.seen_path.lane_steps.Goals as goal

pub returns-else-has_lane_step : goal.returns-else-has_lane_step
returns-else-has_lane_step c = λ s d. sym (none_barred s d c.args.path.now (sym c.has_lane_step.ensures ∙ c.if-has_lane_step.false))

use Rattle.std.proofs.Common.{◌≡◌, ◌*◌}
use Rattle.trial_instance.specs.Draws.{state_after}
use Rattle.trial_instance.specs.Trial.{trial_sites}
use Rattle.trial_instance.proofs.square.draw_sites.Given as goal

-- the sites so far, and the state behind them
abbrev pub invariant-loop : goal.invariant-loop
invariant-loop l = (l.sites.items ≡ trial_sites l.fn.draws.state l.counter) × (l.draws.state ≡ state_after l.fn.draws.state (3 * l.counter))

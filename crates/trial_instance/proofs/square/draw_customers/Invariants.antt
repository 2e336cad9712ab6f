use Rattle.std.proofs.Common.{◌≡◌, ◌*◌}
use Rattle.trial_instance.specs.Draws.{state_after}
use Rattle.trial_instance.specs.Trial.{trial_customers}
use Rattle.trial_instance.proofs.square.draw_customers.Given as goal

-- the customers so far, and the state behind them
abbrev pub invariant-loop : goal.invariant-loop
invariant-loop l = (l.customers.items ≡ trial_customers l.fn.draws.state 0 l.counter) × (l.draws.state ≡ state_after l.fn.draws.state (2 * l.counter))

use Rattle.std.proofs.Common.{◌≡◌, ◌-◌}
use Rattle.fixed_cost.specs.Reading.{many_at}
use Rattle.fixed_cost.proofs.ReadSteps.{with_front}
use Rattle.instance_text.specs.Own.{maybe_at}
use Rattle.instance_text.proofs.reading.read_lanes.Given as goal

-- the lanes so far and those that are left are all
abbrev pub invariant-loop : goal.invariant-loop
invariant-loop l = with_front l.lanes (many_at (λ _. maybe_at) l.counter (l.count - l.counter) l.reader) ≡ many_at (λ _. maybe_at) 0 l.count l.fn.reader

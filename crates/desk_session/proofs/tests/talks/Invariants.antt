use Rattle.std.proofs.Common.{◌≤◌}
use Rattle.whatif_session.specs.State.{last_serial}
use Rattle.desk_session.proofs.tests.talks.Given as goal

-- each line makes one solve at most
abbrev pub invariant-loop-k : goal.invariant-loop-k
invariant-loop-k l = last_serial l.desk.session.state ≤ l.k

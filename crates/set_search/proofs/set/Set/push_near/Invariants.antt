use Rattle.std.proofs.Common.{◌≡◌}
use Rattle.set_search.proofs.set.Set.push_near.Given as goal

abbrev pub invariant-loop-change : goal.invariant-loop-change
invariant-loop-change l = l.rooms ≡ l.fn.rooms

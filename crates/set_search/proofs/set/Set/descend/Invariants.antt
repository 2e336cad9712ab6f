use Rattle.std.proofs.Common.{◌≡◌}
use Rattle.set_search.proofs.set.Set.descend.Given as goal

abbrev pub invariant-loop : goal.invariant-loop
invariant-loop l = l.rooms ≡ l.fn.rooms

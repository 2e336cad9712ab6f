use Rattle.std.proofs.Common.{◌≡◌}
use Rattle.dual_value.proofs.bound_tests.keeps_the_bound.Given as goal

abbrev pub invariant-loop : goal.invariant-loop
invariant-loop l = l.bounds ≡ l.inst

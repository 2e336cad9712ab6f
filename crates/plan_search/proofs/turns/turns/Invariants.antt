use Rattle.std.proofs.Common.{◌≡◌}
use Rattle.plan_search.specs.Turns.{first_turns}
use Rattle.plan_search.proofs.turns.turns.Given as goal

abbrev pub invariant-loop-cust : goal.invariant-loop-cust
invariant-loop-cust l = l.turns.items ≡ first_turns l.inst l.cust

use Rattle.std.proofs.Common.{arith}
use Rattle.leaf_bounds.proofs.Divisors.{small_where_none, small_where_some}
use Rattle.leaf_bounds.proofs.small.has_small_knapsacks.Goals as goal

pub returns-then-whole-eq0 : goal.returns-then-whole-eq0
returns-then-whole-eq0 c = small_where_none c.args.inst.now c.whole_demand-whole.result c.whole_demand-whole.ensures c.if-whole-eq0.true

pub returns : goal.returns
returns c = small_where_some c.args.inst.now c.whole_demand-whole.result c.hold_few_units.result c.whole_demand-whole.ensures (omega (arith, c.if-whole-eq0.false)) c.hold_few_units.ensures

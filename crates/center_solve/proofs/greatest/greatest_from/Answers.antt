use Rattle.std.proofs.Common.{◌≤◌, IfSome, sym, subst, arith, rules}
use Rattle.center_solve.proofs.greatest.greatest_from.Goals as goal

pub loop-cust-preserved : goal.loop-cust-preserved
loop-cust-preserved c = record {
  more = search rules;
  so_far = search rules;
  least = λ r more limit.
      c.greater-greatest.ensures.least r (c.loop-cust.invariant.least r more limit)
      (subst (λ o. IfSome o (λ cost. cost ≤ r)) (sym c.lane.ensures.exact) (limit c.loop-cust.cust (omega (arith, c.loop-cust-test.true, c.custs-cust-end.ensures.count))));
  small = search rules;
}

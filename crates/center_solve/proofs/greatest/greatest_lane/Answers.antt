use Rattle.std.proofs.Common.{arith, rules}
use Rattle.center_solve.proofs.greatest.greatest_lane.Goals as goal

pub loop-site-preserved : goal.loop-site-preserved
loop-site-preserved c = record {
  so_far = search rules;
  least = λ r limit.
      c.greatest_from-greatest.ensures.least r (c.loop-site.invariant.least r limit)
      (λ j within. limit c.loop-site.site j (omega (arith, c.loop-site-test.true, c.sites-site-end.ensures.count)) within);
  small = search rules;
}

use Rattle.location_terms.specs.Instance.{site_at, customer_at, lane}
use Rattle.center_solve.proofs.Rays.{none_below}
use Rattle.center_solve.proofs.reach.at_nothing.Goals as goal

pub returns-clause-reach : goal.returns-clause-reach
returns-clause-reach c = record {
  known = c.custs-custs.ensures.valid.sizes.some_customer;
  least = λ i _. none_below (lane c.args.inst.now (site_at c.args.inst.now i).id (customer_at c.args.inst.now 0).id);
}

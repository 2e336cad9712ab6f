use Rattle.std.proofs.Common.{sym, subst, arith}
use Rattle.std.specs.Prelude.{Contains}
use Rattle.location_terms.specs.Instance.{customer_ids}
use Rattle.report.proofs.table.lane_costs.Goals as goal

pub unwrap-j-requires : goal.unwrap-j-requires
unwrap-j-requires c =
    c.cust_at.ensures.known.1
    (subst (Contains (customer_ids c.args.inst.now)) (sym c.index-custs-k.is) (c.requires.known c.loop-k.k c.index-custs-k.result (omega (arith, c.loop-k-test.true))))

use Rattle.std.proofs.Common.{◌≡◌, ap, sym, subst, ◌∙◌, arith}
use Rattle.std.specs.Prelude.{Contains}
use Rattle.location_terms.specs.Instance.{customer_ids, demand_of}
use Rattle.location_terms.proofs.Places.{demand_of-customer_at}
use Rattle.report.proofs.TableLines.{sum_more}
use Rattle.report.proofs.table.demands.Goals as goal

pub unwrap-j-requires : goal.unwrap-j-requires
unwrap-j-requires c =
    c.cust_at.ensures.known.1
    (subst (Contains (customer_ids c.args.inst.now)) (sym c.index-custs-k.is) (c.requires.known c.loop-k.k c.index-custs-k.result (omega (arith, c.loop-k-test.true))))

pub loop-k-preserved : goal.loop-k-preserved
loop-k-preserved c =
    let I = c.args.inst.now in
    let found = rw c.unwrap-j.ensures at c.cust_at.ensures.found in
    let demand : c.demand-sum.result ≡ demand_of I c.index-custs-k.result =
    c.demand-sum.ensures.exact ∙ sym (demand_of-customer_at I c.unwrap-j.result c.requires.valid.customers_named.rising found.0) ∙ ap (demand_of I) found.1 in
    let more = sum_more (demand_of I) c.args.custs.now c.loop-k.k c.index-custs-k.result (omega (arith, c.loop-k-test.true)) c.index-custs-k.is in
    record { exact = omega (arith, c.loop-k.invariant.exact, demand, more); small = omega (arith, c.demand-sum.ensures.small, c.loop-k.invariant.small) }

use Rattle.std.proofs.Common.{arith}
use Rattle.std.proofs.lemmas.Result.{err_from_is_err_and}
use Rattle.pmed_paths.proofs.Medians.{fault-one, rows-more, near-more, near-all}
use Rattle.pmed_paths.proofs.median.site_rows.Goals as goal

pub site_row-requires-clause-few : goal.site_row-requires-clause-few
site_row-requires-clause-few c = omega (arith, c.loop-place-test.true, c.vertices-vertices.ensures.count, c.vertices-vertices.ensures.network.counts.few_vertices)

pub returns-in_err-row-clause-fault : goal.returns-in_err-row-clause-fault
returns-in_err-row-clause-fault c =
    let p = err_from_is_err_and c.from_residual-in_err-row.result c.from_residual-in_err-row.ensures.1 in
    rw (p.1, p.2) (fault-one c.args.net.now c.loop-place.place c.in_err-row.field-0.0 (omega (arith, c.loop-place-test.true, c.vertices-vertices.ensures.count)) c.in_err-row.ensures.fault)

pub loop-place-preserved : goal.loop-place-preserved
loop-place-preserved c =
    (rows-more c.args.net.now c.loop-place.place c.loop-place.rows.items c.push_row.new.rows.items c.in_ok-row.row c.in_ok-push_row.ensures c.in_ok-row.ensures.row c.loop-place.invariant.0, near-more c.args.net.now c.loop-place.place c.loop-place.invariant.1 c.in_ok-row.ensures.near)

pub returns-clause-near : goal.returns-clause-near
returns-clause-near c = near-all c.args.net.now (λ k below. c.loop-place.invariant.1 k (omega (arith, below, c.vertices-vertices.ensures.count)))

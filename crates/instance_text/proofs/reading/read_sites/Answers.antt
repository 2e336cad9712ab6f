use Rattle.std.proofs.Common.{◌≡◌, ℕ, ◌+◌, ◌-◌, suc, arith}
use Rattle.std.proofs.lemmas.Result.{err_from_is_err_and}
use Rattle.fixed_cost.proofs.ReadSteps.{many_from-next, many_from-fails, many_from-done}
use Rattle.instance_store.specs.declared.rows.SiteRow.{SiteRow}
use Rattle.location_terms.specs.declared.status.SiteStatus.{SiteStatus}
use Rattle.instance_text.specs.Own.{site_line_at}
use Rattle.instance_text.proofs.reading.read_sites.Goals as goal

abbrev id_of : ℕ → SiteRow × SiteStatus → ℕ
id_of last s = s.0.id

pub returns-in_err-row : goal.returns-in_err-row
returns-in_err-row c =
    let p = err_from_is_err_and c.from_residual-in_err-row.result c.from_residual-in_err-row.ensures.1 in
    let more : c.args.count - c.loop.counter ≡ suc (c.args.count - (c.loop.counter + 1)) = omega arith in
    rw (p.1, p.2) (many_from-fails id_of (site_line_at c.args.statuses c.args.custs c.args.next) c.loop.sites.items c.loop.last _ _ c.loop.reader c.in_err-row.field-0.0 _ more c.in_err-row.ensures c.loop.invariant)

pub loop-preserved : goal.loop-preserved
loop-preserved c =
    let more : c.args.count - c.loop.counter ≡ suc (c.args.count - (c.loop.counter + 1)) = omega arith in
    rw (c.in_ok-push.ensures.items, c.number-last.ensures) (many_from-next id_of (site_line_at c.args.statuses c.args.custs c.args.next) c.loop.sites.items c.loop.last _ _ c.loop.reader (c.in_ok-row.row, c.in_ok-row.status) c.read_site.new.reader _ more c.in_ok-row.ensures c.loop.invariant)

pub returns : goal.returns
returns c = many_from-done id_of (site_line_at c.args.statuses c.args.custs c.args.next) c.loop.sites.items c.loop.last _ c.loop.reader _ (omega arith) c.loop.invariant

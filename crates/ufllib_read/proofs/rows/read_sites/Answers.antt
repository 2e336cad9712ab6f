use Rattle.std.proofs.Common.{◌≡◌, ◌+◌, ◌-◌, suc, arith}
use Rattle.std.proofs.lemmas.Result.{err_from_is_err_and}
use Rattle.fixed_cost.proofs.ReadSteps.{many_at-next, many_at-fails, many_at-done}
use Rattle.ufllib_read.specs.Ufl.{site_lanes_at}
use Rattle.ufllib_read.proofs.rows.read_sites.Goals as goal

pub returns-in_err-row : goal.returns-in_err-row
returns-in_err-row c =
    let p = err_from_is_err_and c.from_residual-in_err-row.result c.from_residual-in_err-row.ensures.1 in
    let more : c.args.sites + 1 - c.loop-number.number ≡ suc (c.args.sites + 1 - (c.loop-number.number + 1)) = omega arith in
    rw (p.1, p.2) (many_at-fails (site_lanes_at c.args.custs) c.loop-number.rows.items c.loop-number.number _ _ c.loop-number.reader c.in_err-row.field-0.0 _ more c.in_err-row.ensures c.loop-number.invariant)

pub loop-number-preserved : goal.loop-number-preserved
loop-number-preserved c =
    let more : c.args.sites + 1 - c.loop-number.number ≡ suc (c.args.sites + 1 - (c.loop-number.number + 1)) = omega arith in
    rw c.in_ok-push.ensures.items (many_at-next (site_lanes_at c.args.custs) c.loop-number.rows.items c.loop-number.number _ _ c.loop-number.reader c.in_ok-row.row c.read_site.new.reader _ more c.in_ok-row.ensures c.loop-number.invariant)

pub returns : goal.returns
returns c = many_at-done (site_lanes_at c.args.custs) c.loop-number.rows.items c.loop-number.number _ c.loop-number.reader _ (omega arith) c.loop-number.invariant

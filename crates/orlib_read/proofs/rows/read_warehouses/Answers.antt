use Rattle.std.proofs.Common.{◌≡◌, ◌+◌, ◌-◌, suc, arith}
use Rattle.std.proofs.lemmas.Result.{err_from_is_err_and}
use Rattle.fixed_cost.specs.declared.fault.FormFault.TheVariants.{File}
use Rattle.fixed_cost.proofs.ReadSteps.{many_at-next, many_at-fails, many_at-done}
use Rattle.orlib_read.specs.Warehouses.{warehouse_at}
use Rattle.orlib_read.proofs.rows.read_warehouses.Goals as goal

pub returns-in_err-site : goal.returns-in_err-site
returns-in_err-site c =
    let p = err_from_is_err_and c.from_residual-in_err-site.result c.from_residual-in_err-site.ensures.1 in
    let more : c.args.count - c.loop.counter ≡ suc (c.args.count - (c.loop.counter + 1)) = omega arith in
    rw (p.1, p.2) (many_at-fails (λ _. warehouse_at c.args.capacities) c.loop.sites.items c.loop.counter _ _ c.loop.reader (File c.in_err-site.field-0.0) _ more c.in_err-site.ensures c.loop.invariant)

pub loop-preserved : goal.loop-preserved
loop-preserved c =
    let more : c.args.count - c.loop.counter ≡ suc (c.args.count - (c.loop.counter + 1)) = omega arith in
    rw c.in_ok-push.ensures.items (many_at-next (λ _. warehouse_at c.args.capacities) c.loop.sites.items c.loop.counter _ _ c.loop.reader c.in_ok-site.site c.read_warehouse.new.reader _ more c.in_ok-site.ensures c.loop.invariant)

pub returns : goal.returns
returns c = many_at-done (λ _. warehouse_at c.args.capacities) c.loop.sites.items c.loop.counter _ c.loop.reader _ (omega arith) c.loop.invariant

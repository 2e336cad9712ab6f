use Rattle.std.proofs.Common.{◌≡◌, ◌+◌, ◌-◌, suc, arith}
use Rattle.std.proofs.lemmas.Result.{err_from_is_err_and}
use Rattle.fixed_cost.proofs.ReadSteps.{many_at-next, many_at-fails, many_at-done}
use Rattle.orlib_read.specs.Warehouses.{customer_at}
use Rattle.orlib_read.proofs.rows.read_customers.Goals as goal

pub returns-in_err-cust : goal.returns-in_err-cust
returns-in_err-cust c =
    let p = err_from_is_err_and c.from_residual-in_err-cust.result c.from_residual-in_err-cust.ensures.1 in
    let more : c.args.count - c.loop.counter ≡ suc (c.args.count - (c.loop.counter + 1)) = omega arith in
    rw (p.1, p.2) (many_at-fails (λ _. customer_at c.args.sites) c.loop.custs.items c.loop.counter _ _ c.loop.reader c.in_err-cust.field-0.0 _ more c.in_err-cust.ensures c.loop.invariant)

pub loop-preserved : goal.loop-preserved
loop-preserved c =
    let more : c.args.count - c.loop.counter ≡ suc (c.args.count - (c.loop.counter + 1)) = omega arith in
    rw c.in_ok-push.ensures.items (many_at-next (λ _. customer_at c.args.sites) c.loop.custs.items c.loop.counter _ _ c.loop.reader c.in_ok-cust.cust c.read_customer.new.reader _ more c.in_ok-cust.ensures c.loop.invariant)

pub returns : goal.returns
returns c = many_at-done (λ _. customer_at c.args.sites) c.loop.custs.items c.loop.counter _ c.loop.reader _ (omega arith) c.loop.invariant

use Rattle.std.proofs.Common.{◌≡◌, ℕ, ◌+◌, ◌-◌, suc, arith}
use Rattle.std.proofs.lemmas.Result.{err_from_is_err_and}
use Rattle.fixed_cost.specs.declared.fault.FormFault.TheVariants.{File}
use Rattle.fixed_cost.proofs.ReadSteps.{many_from-next, many_from-fails, many_from-done}
use Rattle.instance_store.specs.declared.rows.CustRow.{CustRow}
use Rattle.instance_text.specs.Own.{customer_line_at}
use Rattle.instance_text.proofs.reading.read_customers.Goals as goal

abbrev id_of : ℕ → CustRow → ℕ
id_of last c = c.id

pub returns-in_err-cust : goal.returns-in_err-cust
returns-in_err-cust c =
    let p = err_from_is_err_and c.from_residual-in_err-cust.result c.from_residual-in_err-cust.ensures.1 in
    let more : c.args.count - c.loop.counter ≡ suc (c.args.count - (c.loop.counter + 1)) = omega arith in
    rw (p.1, p.2) (many_from-fails id_of (customer_line_at c.args.next) c.loop.custs.items c.loop.last _ _ c.loop.reader (File c.in_err-cust.field-0.0) _ more c.in_err-cust.ensures c.loop.invariant)

pub loop-preserved : goal.loop-preserved
loop-preserved c =
    let more : c.args.count - c.loop.counter ≡ suc (c.args.count - (c.loop.counter + 1)) = omega arith in
    rw (c.in_ok-push.ensures.items, c.number-last.ensures) (many_from-next id_of (customer_line_at c.args.next) c.loop.custs.items c.loop.last _ _ c.loop.reader c.in_ok-cust.cust c.read_customer.new.reader _ more c.in_ok-cust.ensures c.loop.invariant)

pub returns : goal.returns
returns c = many_from-done id_of (customer_line_at c.args.next) c.loop.custs.items c.loop.last _ c.loop.reader _ (omega arith) c.loop.invariant

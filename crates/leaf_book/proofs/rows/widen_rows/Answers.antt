use Rattle.std.proofs.Common.{arith}
use Rattle.leaf_book.proofs.Widened.{same_widened, grown_widened, room_widened}
use Rattle.leaf_book.proofs.rows.widen_rows.Goals as goal

pub returns-in_err-widen-clause-same : goal.returns-in_err-widen-clause-same
returns-in_err-widen-clause-same c = same_widened c.args.rows.now c.loop-k.rows c.loop-k.k c.index-rows-k.result c.widen.new.self (omega (arith, c.loop-k-test.true, c.loop-k.auto.rows)) c.in_err-widen.ensures.same c.loop-k.invariant.same

pub returns-in_err-widen-clause-grown : goal.returns-in_err-widen-clause-grown
returns-in_err-widen-clause-grown c = grown_widened c.args.rows.now c.loop-k.rows c.loop-k.k c.index-rows-k.result c.widen.new.self (omega (arith, c.loop-k-test.true, c.loop-k.auto.rows)) c.in_err-widen.ensures.grown c.loop-k.invariant.grown

pub loop-k-preserved : goal.loop-k-preserved
loop-k-preserved c =
    let rows = c.loop-k.rows in
    let k = c.loop-k.k in
    let e = c.in_ok-widen.ensures in
    record {
      same = same_widened c.args.rows.now rows k c.index-rows-k.result c.widen.new.self (omega (arith, c.loop-k-test.true, c.loop-k.auto.rows)) e.same c.loop-k.invariant.same;
      grown = grown_widened c.args.rows.now rows k c.index-rows-k.result c.widen.new.self (omega (arith, c.loop-k-test.true, c.loop-k.auto.rows)) e.grown c.loop-k.invariant.grown;
      room = room_widened c.args.rows.now rows k c.index-rows-k.result c.widen.new.self (omega (arith, c.loop-k-test.true, c.loop-k.auto.rows)) c.args.sites e.room c.loop-k.invariant.room;
    }

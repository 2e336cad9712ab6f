use Rattle.std.proofs.Common.{sym}
use Rattle.std.proofs.lemmas.Result.{err_from_is_err_and}
use Rattle.instance_text.proofs.ReadRows.{are_parts}
use Rattle.instance_text.proofs.Whole.{trails, stored-means}
use Rattle.instance_text.proofs.reading.body.Goals as goal

pub returns-in_err-finish-clause-meaning : goal.returns-in_err-finish-clause-meaning
returns-in_err-finish-clause-meaning c =
    let p = err_from_is_err_and c.from_residual-in_err-finish.result c.from_residual-in_err-finish.ensures.1 in
    rw (p.1, p.2) (trails c.args.statuses c.args.m c.args.n c.args.count c.args.reader c.in_ok-custs.custs.items c.read_customers.new.reader c.in_ok-sites.sites.items c.read_sites.new.reader c.in_ok-custs.ensures c.in_ok-sites.ensures c.pass.new.reader c.in_ok-pass.ensures c.in_err-finish.field-0.0 (sym c.in_err-finish.ensures))

pub store-requires : goal.store-requires
store-requires c =
    are_parts c.args.statuses c.args.m c.args.n c.args.count c.args.reader c.in_ok-custs.custs.items c.read_customers.new.reader c.in_ok-sites.sites.items c.read_sites.new.reader c.requires c.in_ok-custs.ensures c.in_ok-sites.ensures

pub returns-clause-meaning : goal.returns-clause-meaning
returns-clause-meaning c =
    stored-means c.args.statuses c.args.m c.args.n c.args.count c.args.reader c.in_ok-custs.custs.items c.read_customers.new.reader c.in_ok-sites.sites.items c.read_sites.new.reader c.in_ok-custs.ensures c.in_ok-sites.ensures c.pass.new.reader c.in_ok-pass.ensures c.store.result (sym c.in_ok-finish.ensures) c.store.ensures.instance c.store.ensures.memory

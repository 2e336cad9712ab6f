use Rattle.std.proofs.Common.{sym}
use Rattle.std.proofs.lemmas.Result.{err_from_is_err_and}
use Rattle.orlib_read.proofs.ReadRows.{are_rows, no_caps, all_there}
use Rattle.orlib_read.proofs.Whole.{trails, stored-means}
use Rattle.orlib_read.proofs.rows.instance.Goals as goal

pub returns-in_err-finish-clause-meaning : goal.returns-in_err-finish-clause-meaning
returns-in_err-finish-clause-meaning c =
    let p = err_from_is_err_and c.from_residual-in_err-finish.result c.from_residual-in_err-finish.ensures.1 in
    let s = c.in_ok-sizes.sizes in
    rw (p.1, p.2) (trails c.args.capacities c.args.reader s.sites s.custs c.read_sizes.new.reader c.in_ok-sites.sites.items c.read_warehouses.new.reader c.in_ok-custs.custs.items c.read_customers.new.reader c.in_ok-sizes.ensures.read c.in_ok-sites.ensures c.in_ok-custs.ensures c.in_err-finish.field-0.0 (sym c.in_err-finish.ensures))

pub store-requires-clause-rows : goal.store-requires-clause-rows
store-requires-clause-rows c =
    let s = c.in_ok-sizes.sizes in
    are_rows c.args.capacities s.sites s.custs c.read_sizes.new.reader c.in_ok-sites.sites.items c.read_warehouses.new.reader c.in_ok-custs.custs.items c.read_customers.new.reader c.requires c.in_ok-sites.ensures c.in_ok-custs.ensures c.in_ok-sizes.ensures.within

pub store-requires-clause-there : goal.store-requires-clause-there
store-requires-clause-there c =
    let s = c.in_ok-sizes.sizes in
    all_there c.args.capacities s.sites s.custs c.read_sizes.new.reader c.in_ok-sites.sites.items c.read_warehouses.new.reader c.in_ok-custs.custs.items c.read_customers.new.reader c.requires c.in_ok-sites.ensures c.in_ok-custs.ensures

pub returns-clause-meaning : goal.returns-clause-meaning
returns-clause-meaning c =
    let s = c.in_ok-sizes.sizes in
    stored-means c.args.capacities c.args.reader s.sites s.custs c.read_sizes.new.reader c.in_ok-sites.sites.items c.read_warehouses.new.reader c.in_ok-custs.custs.items c.read_customers.new.reader c.in_ok-sizes.ensures.read c.in_ok-sites.ensures c.in_ok-custs.ensures c.store.result (sym c.in_ok-finish.ensures) c.store.ensures.instance c.store.ensures.memory

pub returns-clause-plain : goal.returns-clause-plain
returns-clause-plain c ignored =
    let s = c.in_ok-sizes.sizes in
    c.store.ensures.plain (no_caps c.args.capacities s.sites s.custs c.read_sizes.new.reader c.in_ok-sites.sites.items c.read_warehouses.new.reader c.in_ok-custs.custs.items c.read_customers.new.reader c.requires c.in_ok-sites.ensures c.in_ok-custs.ensures ignored)

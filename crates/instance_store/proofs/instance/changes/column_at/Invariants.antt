use Rattle.std.proofs.Common.{◌≡◌, take}
use Rattle.instance_store.specs.Columns.{column_in}
use Rattle.instance_store.proofs.instance.changes.column_at.Given as goal

-- the lanes so far
abbrev pub invariant-loop-site : goal.invariant-loop-site
invariant-loop-site l = l.column ≡ take l.site-index (column_in l.sites l.cust)

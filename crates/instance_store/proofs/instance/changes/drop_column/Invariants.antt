use Rattle.instance_store.specs.Columns.{AreWithout}
use Rattle.instance_store.proofs.instance.changes.drop_column.Given as goal

-- the rows so far
abbrev pub invariant-loop-i : goal.invariant-loop-i
invariant-loop-i l = AreWithout l.i l.cust l.initial.sites l.sites

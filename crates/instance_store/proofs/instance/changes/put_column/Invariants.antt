use Rattle.instance_store.specs.Columns.{AreWith}
use Rattle.instance_store.proofs.instance.changes.put_column.Given as goal

-- the rows so far
abbrev pub invariant-loop-i : goal.invariant-loop-i
invariant-loop-i l = AreWith l.i l.place l.lanes l.initial.sites l.sites

use Rattle.std.proofs.Common.{◌≡◌, take}
use Rattle.instance_store.specs.Numbered.{column_at}
use Rattle.instance_store.proofs.numbered.column.Given as goal

-- the lanes so far
abbrev pub invariant-loop-cust : goal.invariant-loop-cust
invariant-loop-cust l = l.row ≡ take l.cust-index (column_at l.i l.custs)

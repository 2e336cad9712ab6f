use Rattle.std.proofs.Common.{◌≡◌, take}
use Rattle.instance_store.specs.Numbered.{columns_of}
use Rattle.instance_store.proofs.numbered.with_columns.Given as goal

-- the sites so far
abbrev pub invariant-loop-i : goal.invariant-loop-i
invariant-loop-i l = l.rows.items ≡ take l.i (columns_of l.sites.items l.custs)

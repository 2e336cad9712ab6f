use Rattle.sqlite_rows.proofs.Entries.{AreListed}
use Rattle.sqlite_rows.proofs.names.names_of.Given as goal

-- the names so far
abbrev pub invariant-loop-row : goal.invariant-loop-row
invariant-loop-row l = AreListed l.names l.rows l.row-index

use Rattle.std.proofs.Common.{◌≡◌, length}
use Rattle.sqlite_rows.specs.Stored.{base_row}
use Rattle.sqlite_rows.proofs.Lines.{AreRead}
use Rattle.sqlite_rows.proofs.scenario.edited.Given as goal

-- the base is there, and the edits so far
abbrev pub invariant-loop-line : goal.invariant-loop-line
invariant-loop-line l = (l.row ≡ base_row l.scenario.base (length l.lines)) × AreRead l.scenario.edits l.lines l.line-index

-- What a keeper in a file counts.
use Rattle.std.specs.Prelude.{ℕ}
use Rattle.sqlite_keeper.specs.declared.keeper.SqliteKeeper.{SqliteKeeper}

-- how many of its calls were answered `Failed`
abbrev pub counted_faults : SqliteKeeper → ℕ
counted_faults keeper = keeper.faults

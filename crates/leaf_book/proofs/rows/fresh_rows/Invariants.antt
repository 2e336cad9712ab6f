use Rattle.std.proofs.Common.{◌≡◌, ◌≤◌, length}
use Rattle.std.specs.Prelude.{All}
use Rattle.leaf_book.proofs.rows.fresh_rows.Given as goal

abbrev pub invariant-loop-leaf : goal.invariant-loop-leaf
invariant-loop-leaf l = record {
  count : length l.rows.items ≡ l._leaf;
  room : All (λ row. l.sites ≤ row.room) l.rows.items;
}

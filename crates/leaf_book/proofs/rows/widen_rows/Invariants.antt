use Rattle.std.proofs.Common.{◌≡◌, ◌≤◌, ◌<◌, ℕ, map, get_or}
use Rattle.std.specs.Prelude.{All}
use Rattle.leaf_book.specs.Rows.{Held}
use Rattle.leaf_book.proofs.rows.widen_rows.Given as goal

-- the sums stay, no row has less room, and the first ones have enough
abbrev pub invariant-loop-k : goal.invariant-loop-k
invariant-loop-k l = record {
  same : map (λ row. row.sums) l.rows ≡ map (λ row. row.sums) l.fn.rows;
  grown : (n : ℕ) → All (λ row. n ≤ row.room) l.fn.rows → All (λ row. n ≤ row.room) l.rows;
  room : (j : ℕ) (d : Held) → j < l.k → l.sites ≤ (get_or l.rows j d).room;
}

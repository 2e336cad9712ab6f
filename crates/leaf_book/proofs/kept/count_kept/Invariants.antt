use Rattle.std.proofs.Common.{◌≡◌, ◌≤◌, length, take}
use Rattle.std.specs.Prelude.{filter}
use Rattle.leaf_book.specs.Kept.{keeps}
use Rattle.leaf_book.proofs.kept.count_kept.Given as goal

-- how many of the first ones are kept
abbrev pub invariant-loop-k : goal.invariant-loop-k
invariant-loop-k l = record {
  count : l.kept ≡ length (filter (λ p. keeps l.inst p.path) (take l.k l.places));
  few : l.kept ≤ l.k;
}

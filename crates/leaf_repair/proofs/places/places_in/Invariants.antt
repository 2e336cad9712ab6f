use Rattle.std.proofs.Common.{◌≡◌, ℕ, ◌<◌, ◌≤◌, length, take, slice_index}
use Rattle.std.specs.Prelude.{All}
use Rattle.leaf_repair.specs.Placed.{places_of}
use Rattle.leaf_repair.proofs.places.places_in.Given as goal

-- the places so far, and what was passed is less than all numbers that are still to come
abbrev pub invariant-loop-k : goal.invariant-loop-k
invariant-loop-k l = record {
  within : l.passed ≤ length l.before;
  less : (k : ℕ) → l.k ≤ k → k < length l.now → All (λ x. x < slice_index l.now k) (take l.passed l.before);
  places : l.places.items ≡ places_of l.before (take l.k l.now);
}

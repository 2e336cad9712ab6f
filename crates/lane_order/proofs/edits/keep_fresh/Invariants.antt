use Rattle.std.proofs.Common.{ℕ, ◌≤◌, All, vec_len}
use Rattle.lane_order.specs.Listed.{IsFresh}
use Rattle.lane_order.proofs.edits.keep_fresh.Given as goal

-- the lists that were there, and so many more
abbrev pub invariant-loop-more : goal.invariant-loop-more
invariant-loop-more l = record {
  kept : (room : ℕ) → room ≤ l.lanes → All (IsFresh room) l.fn.fresh.items → All (IsFresh room) l.fresh.items;
  room : All (IsFresh 0) l.fn.fresh.items → All (IsFresh l.lanes) l.fresh.items;
  count : vec_len l.fn.fresh ≤ vec_len l.fresh;
  many : l._more ≤ vec_len l.fresh;
}

use Rattle.std.proofs.Common.{◌≡◌, ℕ, ◌<◌, ◌≤◌, length, slice_index_or}
use Rattle.lane_order.specs.Listed.{Listed, HasLaneLess}
use Rattle.lane_order.proofs.edits.remove_site.Given as goal

-- the site has gone from the lists so far, and the others are as they were
abbrev pub invariant-loop-cust : goal.invariant-loop-cust
invariant-loop-cust l = record {
  count : length l.lists ≡ length l.initial.lists;
  done : (j : ℕ) (d : Listed) → j < l.cust → HasLaneLess l.place (slice_index_or l.initial.lists j d) (slice_index_or l.lists j d);
  left : (j : ℕ) (d : Listed) → l.cust ≤ j → slice_index_or l.lists j d ≡ slice_index_or l.initial.lists j d;
}

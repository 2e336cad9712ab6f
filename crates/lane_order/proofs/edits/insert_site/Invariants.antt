use Rattle.std.proofs.Common.{◌≡◌, ℕ, ◌<◌, ◌≤◌, length, None, slice_index_or}
use Rattle.lane_order.specs.Listed.{Listed, HasLaneMore}
use Rattle.lane_order.proofs.edits.insert_site.Given as goal

-- the site has come to the lists so far, and the others are as they were
abbrev pub invariant-loop-cust : goal.invariant-loop-cust
invariant-loop-cust l = record {
  count : length l.lists ≡ length l.initial.lists;
  done : (j : ℕ) (d : Listed) → j < l.cust → HasLaneMore l.place (slice_index_or l.lanes j None) (slice_index_or l.initial.lists j d) (slice_index_or l.lists j d);
  left : (j : ℕ) (d : Listed) → l.cust ≤ j → slice_index_or l.lists j d ≡ slice_index_or l.initial.lists j d;
}

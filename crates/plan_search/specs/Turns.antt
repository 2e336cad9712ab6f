-- For private functions alone: no public contract cites this page.
-- The customers' turns, as they are stored.
use Rattle.std.specs.Prelude.{ℕ, ◌-◌, List, map, length, IsPermutation}
use Rattle.std.specs.List.{range_with_len}
use Rattle.std.specs.List.Sorted.{IsSorted}
use Rattle.std.specs.Ordering.{nat_cmp, ordering_then}
use Rattle.std.specs.declared.cmp.Ordering.{Ordering}
use Rattle.location_terms.specs.Instance.{Instance, customer_at}
use Rattle.location_terms.specs.declared.limits.TheConstants.{MAX_AMOUNT}
use Rattle.plan_search.specs.declared.turns.Turn.{Turn}

-- the turn of the customer at a place
abbrev pub turn_of : Instance → ℕ → Turn
turn_of I j = record { short = MAX_AMOUNT - (customer_at I j).demand; cust = j }

-- the turns of the first n customers, in the order of the instance
abbrev pub first_turns : Instance → ℕ → List Turn
first_turns I n = map (turn_of I) (range_with_len 0 n)

abbrev pub turn_cmp : Turn → Turn → Ordering
turn_cmp a b = ordering_then (nat_cmp a.short b.short) (nat_cmp a.cust b.cust)

-- the turns of all customers, in order
pub record AreTurns (I : Instance) (turns : List Turn) : Type 0 where
  pub all : IsPermutation (first_turns I (length I.customers)) turns
  pub sorted : IsSorted turn_cmp turns

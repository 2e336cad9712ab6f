-- For private functions alone: no public contract cites this page.
-- The lanes while an order is made, customer after customer.
use Rattle.std.specs.Prelude.{◌≡◌, ℕ, zero, suc, ◌<◌, List, [], ◌∷◌, ◌++◌, length, Option, None, Some, slice_index_or, IsPermutation}
use Rattle.std.specs.List.Sorted.{IsSorted}
use Rattle.std.specs.Ordering.{nat_cmp, ordering_then}
use Rattle.std.specs.declared.cmp.Ordering.{Ordering}
use Rattle.location_terms.specs.Instance.{Instance, site_at, customer_at, lane}
use Rattle.lane_order.specs.Listed.{Listed}
use Rattle.lane_order.specs.declared.order.PlacedLane.{PlacedLane}

-- the lane of this cost from the site at a place, where there is one
abbrev pub placed : Option ℕ → ℕ → List PlacedLane
placed None i = []
placed (Some cost) i = record { cost = cost; site = i } ∷ []

-- the lanes from the first n sites to the customer at place j, in the order of the sites
unfoldable pub first_lanes : Instance → ℕ → ℕ → List PlacedLane
first_lanes I j zero = []
first_lanes I j (suc n) = first_lanes I j n ++ placed (lane I (site_at I n).id (customer_at I j).id) n

abbrev pub placed_cmp : PlacedLane → PlacedLane → Ordering
placed_cmp a b = ordering_then (nat_cmp a.cost b.cost) (nat_cmp a.site b.site)

-- the lanes to the customer at place j, by cost and then by place
pub record AreSortedLanes (I : Instance) (j : ℕ) (lanes : List PlacedLane) : Type 0 where
  pub all : IsPermutation (first_lanes I j (length I.sites)) lanes
  pub sorted : IsSorted placed_cmp lanes

-- for each customer the lanes to it in order
pub record AreListsOf (I : Instance) (lists : List Listed) : Type 0 where
  pub count : length lists ≡ length I.customers
  pub each : (j : ℕ) (d : Listed) → j < length I.customers → AreSortedLanes I j (slice_index_or lists j d).lanes

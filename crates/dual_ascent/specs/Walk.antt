-- For private functions alone: no public contract cites this page.
-- The lanes over which a walk goes, by place.
use Rattle.std.specs.Prelude.{◌≡◌, ℕ, ◌<◌, ◌≤◌, List, length, get_or, Some, IsSome}
use Rattle.location_terms.specs.Instance.{Instance, site_at, customer_at, lane}
use Rattle.location_terms.specs.declared.limits.TheConstants.{MAX_AMOUNT}
use Rattle.lane_order.specs.declared.order.PlacedLane.{PlacedLane}

-- the lanes to the customer, each of the instance once, whose costs rise
pub record IsLaneWalk (I : Instance) (j : ℕ) (lanes : List PlacedLane) : Type 0 where
  pub within : (k : ℕ) (d : PlacedLane) → k < length lanes → (get_or lanes k d).site < length I.sites
  pub is_lane : (k : ℕ) (d : PlacedLane) → k < length lanes → lane I (site_at I (get_or lanes k d).site).id (customer_at I j).id ≡ Some (get_or lanes k d).cost
  pub small : (k : ℕ) (d : PlacedLane) → k < length lanes → (get_or lanes k d).cost ≤ MAX_AMOUNT
  pub rising : (k m : ℕ) (d : PlacedLane) → k ≤ m → m < length lanes → (get_or lanes k d).cost ≤ (get_or lanes m d).cost
  pub all : (i : ℕ) → i < length I.sites → IsSome (lane I (site_at I i).id (customer_at I j).id) → (k : ℕ) × (k < length lanes) × ((d : PlacedLane) → (get_or lanes k d).site ≡ i)

-- The lanes to each customer by cost, as the dual ascent of Erlenkotter, Operations Research 26 (1978), goes through them: it
-- raises a customer's dual from the level of one lane to that of the next.
use Rattle.std.specs.Prelude.{◌≡◌, ◌⊎◌, ◌↔◌, ℕ, ◌<◌, nat_lt, List, [], length, AllPairs, Contains, Option, Some, find, slice_get, slice_index_or}
use Rattle.location_terms.specs.Instance.{Instance, site_ids, customer_at, lane}

-- the ids of the sites by place, for each customer the lanes to it, each a pair of its cost and its site's id, and for how many
-- more lanes to each customer there is room
pub record Order : Type 0 where
  pub sites : List ℕ
  pub lanes : List (List (ℕ × ℕ))
  pub spare : ℕ

-- a lane comes before another if it costs less, or as much and its site's id is less
abbrev pub IsBefore : ℕ × ℕ → ℕ × ℕ → Type 0
IsBefore a b = (a.0 < b.0) ⊎ ((a.0 ≡ b.0) × (a.1 < b.1))

-- these are the lanes of the instance to the customer of this id, each once, in order
pub record AreLanesTo (I : Instance) (c : ℕ) (lanes : List (ℕ × ℕ)) : Type 0 where
  pub ascending : AllPairs IsBefore lanes
  pub complete : (cost s : ℕ) → Contains lanes (cost, s) ↔ (lane I s c ≡ Some cost)

-- the lanes to the customer at a place, counted from 0
abbrev pub lanes_to : Order → ℕ → List (ℕ × ℕ)
lanes_to order j = slice_index_or order.lanes j []

-- the order has the sites of the instance, by whose places lanes are stored, and for each of its customers the lanes to that customer
pub record IsOrderOf (order : Order) (I : Instance) : Type 0 where
  pub same_sites : order.sites ≡ site_ids I
  pub same_count : length order.lanes ≡ length I.customers
  pub each : (j : ℕ) → j < length I.customers → AreLanesTo I (customer_at I j).id (lanes_to order j)

-- the lane of a rank, counted from 0, to the customer at a place
abbrev pub lane_at : Order → ℕ → ℕ → Option (ℕ × ℕ)
lane_at order j rank = slice_get (lanes_to order j) rank

-- the first lane to the customer at a place that costs more than this
-- Laws for the crates above, in proofs/Walks and proofs/Counts: in an order of an instance it is the least lane that costs more,
-- and where there is none every lane costs at most as much (`next_is_lane`, `next_is_first`, `none_above`); the lanes that cost
-- at most as much are the first so many of the customer's (`first_ones_cost_less`); the lanes by place are those of the instance
-- (`placed_is_lane`, `lane_is_placed`).
abbrev pub next_above : Order → ℕ → ℕ → Option (ℕ × ℕ)
next_above order j cost = find (λ lane. nat_lt cost lane.0) (lanes_to order j)

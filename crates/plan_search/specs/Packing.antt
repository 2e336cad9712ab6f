-- For private functions alone: no public contract cites this page.
-- What is known while customers take their lanes.
use Rattle.std.specs.Prelude.{◌≡◌, ◌≢◌, ℕ, ◌+◌, ◌<◌, ◌==◌, ◌&&◌, List, length, filter, filter_map, find, All, AllPairs, Option, None, Some, option_map, slice_index_or}
use Rattle.location_terms.specs.Instance.{Instance, site_at, customer_at}
use Rattle.location_terms.specs.Box.{Path, is_allowed, holds_demand}
use Rattle.dual_ascent.specs.Levels.{customer_places}
use Rattle.plan_search.specs.Packed.{taken_at}

-- what is left of a capacity, where there is one
abbrev pub IsRoom : Option ℕ → ℕ → Option ℕ → Type 0
IsRoom None taken room = room ≡ None
IsRoom (Some cap) taken room = (left : ℕ) × (room ≡ Some left) × (left + taken ≡ cap)

abbrev pub room_at : List (Option ℕ) → ℕ → Option ℕ
room_at rooms i = slice_index_or rooms i None

-- what is left at each site, by place, once these lanes are taken
pub record AreRooms (I : Instance) (taken : List (ℕ × ℕ)) (rooms : List (Option ℕ)) : Type 0 where
  pub count : length rooms ≡ length I.sites
  pub each : (i : ℕ) → i < length I.sites → IsRoom (site_at I i).cap (taken_at I taken i) (room_at rooms i)

-- the open sites with an allowed lane to the customer and with room for it
abbrev pub roomy : Instance → Path → List ℕ → List (Option ℕ) → ℕ → List ℕ
roomy I path sites rooms j = filter (λ i. is_allowed I path (site_at I i) (customer_at I j) && holds_demand (room_at rooms i) (customer_at I j).demand) sites

-- the site from which a customer takes its lane, by place
abbrev pub server_among : List (ℕ × ℕ) → ℕ → Option ℕ
server_among taken j = option_map (λ t. t.1) (find (λ t. t.0 == j) taken)

-- the ids of the customers and of the sites from which they take their lanes, in the order of the instance
abbrev pub services_of : Instance → List (ℕ × ℕ) → List (ℕ × ℕ)
services_of I taken = filter_map (λ j. option_map (λ t. ((customer_at I j).id, (site_at I t.1).id)) (find (λ t. t.0 == j) taken)) (customer_places I)

-- each pair is of a customer and a site of the instance, and no customer stands in two
pub record ArePairs (I : Instance) (taken : List (ℕ × ℕ)) : Type 0 where
  pub known : All (λ t. (t.0 < length I.customers) × (t.1 < length I.sites)) taken
  pub apart : AllPairs (λ s t. s.0 ≢ t.0) taken

-- the site of each customer, by place
pub record AreServers (I : Instance) (taken : List (ℕ × ℕ)) (servers : List (Option ℕ)) : Type 0 where
  pub count : length servers ≡ length I.customers
  pub each : (j : ℕ) → j < length I.customers → slice_index_or servers j None ≡ server_among taken j

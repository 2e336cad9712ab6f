-- The lanes to one customer as they are stored.
use Rattle.std.specs.Prelude.{◌≡◌, ◌⊎◌, ◌↔◌, ℕ, ◌+◌, ◌-◌, ◌<◌, ◌≤◌, ◌==◌, ◌&&◌, ◌||◌, nat_lt, not, if◌then◌else◌, Bool, List, [], All, AllPairs, Contains, length, slice_index_or, Option, None, Some}
use Rattle.lane_order.specs.declared.order.PlacedLane.{PlacedLane}

-- the lanes, and how many more there is room for
pub record Listed : Type 0 where
  pub lanes : List PlacedLane
  pub spare : ℕ

-- a lane comes before another if it costs less, or as much and its site's place is less
abbrev pub IsPlacedBefore : PlacedLane → PlacedLane → Type 0
IsPlacedBefore a b = (a.cost < b.cost) ⊎ ((a.cost ≡ b.cost) × (a.site < b.site))

abbrev pub IsNotBefore : PlacedLane → PlacedLane → Type 0
IsNotBefore a b = IsPlacedBefore a b → ⊥

-- the same as a test
abbrev pub is_placed_before : PlacedLane → PlacedLane → Bool
is_placed_before a b = nat_lt a.cost b.cost || ((a.cost == b.cost) && nat_lt a.site b.site)

-- the lanes with one more
pub record IsWith (lane : PlacedLane) (old new : List PlacedLane) : Type 0 where
  pub from : (l : PlacedLane) → Contains new l → (l ≡ lane) ⊎ Contains old l
  pub has : Contains new lane
  pub kept : (l : PlacedLane) → Contains old l → Contains new l

-- the lanes without one
pub record IsWithout (lane : PlacedLane) (old new : List PlacedLane) : Type 0 where
  pub from : (l : PlacedLane) → Contains new l → Contains old l
  pub kept : (l : PlacedLane) → Contains old l → (l ≡ lane → ⊥) → Contains new l
  pub gone : Contains new lane → ⊥

-- the lane from the site at a place is this one, or there is none
abbrev pub IsLaneFrom : ℕ → Option ℕ → List PlacedLane → Type 0
IsLaneFrom site lane lanes = (cost : ℕ) → Contains lanes (record { cost = cost; site = site }) ↔ (lane ≡ Some cost)

-- the lanes from all other sites are the same
abbrev pub HaveSameOthers : ℕ → List PlacedLane → List PlacedLane → Type 0
HaveSameOthers site old new = (l : PlacedLane) → (l.site ≡ site → ⊥) → Contains new l ↔ Contains old l

-- where a site's place comes to lie when another site comes in at a place, and when the site at a place has gone
abbrev pub place_up : ℕ → ℕ → ℕ
place_up place k = if nat_lt k place then k else k + 1

abbrev pub place_down : ℕ → ℕ → ℕ
place_down place k = if nat_lt place k then k - 1 else k

-- a lane whose site has come to another place
abbrev pub lane_up : ℕ → PlacedLane → PlacedLane
lane_up place l = record { cost = l.cost; site = place_up place l.site }

abbrev pub lane_down : ℕ → PlacedLane → PlacedLane
lane_down place l = record { cost = l.cost; site = place_down place l.site }

-- whether a lane is from another site than that at the place
abbrev pub is_elsewhere : ℕ → PlacedLane → Bool
is_elsewhere place l = not (l.site == place)

-- more has the lanes of less, by the places that their sites have where another one has come in at the place
abbrev pub HasPlaceMore : ℕ → List PlacedLane → List PlacedLane → Type 0
HasPlaceMore place less more = (cost k : ℕ) → Contains more (record { cost = cost; site = place_up place k }) ↔ Contains less (record { cost = cost; site = k })

-- lanes from so many sites in order, with room for so many more
pub record IsList (sites spare : ℕ) (l : Listed) : Type 0 where
  pub known : All (λ lane. lane.site < sites) l.lanes
  pub ascending : AllPairs IsPlacedBefore l.lanes
  pub room : spare ≤ l.spare

-- an empty list with room for so many lanes
pub record IsFresh (lanes : ℕ) (l : Listed) : Type 0 where
  pub empty : l.lanes ≡ []
  pub room : lanes ≤ l.spare

-- the list after a site with this lane has come in at a place
pub record HasLaneMore (place : ℕ) (lane : Option ℕ) (old new : Listed) : Type 0 where
  pub ascending : AllPairs IsPlacedBefore new.lanes
  pub given : IsLaneFrom place lane new.lanes
  pub others : HasPlaceMore place old.lanes new.lanes
  pub spare : old.spare ≤ new.spare + 1

-- the list after the site at a place has gone
pub record HasLaneLess (place : ℕ) (old new : Listed) : Type 0 where
  pub ascending : AllPairs IsPlacedBefore new.lanes
  pub others : HasPlaceMore place new.lanes old.lanes
  pub spare : old.spare ≤ new.spare

-- a list filled with a row of lanes, each from the site at its place
pub record IsFilled (row : List (Option ℕ)) (old new : Listed) : Type 0 where
  pub known : All (λ lane. lane.site < length row) new.lanes
  pub ascending : AllPairs IsPlacedBefore new.lanes
  pub each : (k : ℕ) → k < length row → IsLaneFrom k (slice_index_or row k None) new.lanes
  pub spare : old.spare ≤ new.spare + length row

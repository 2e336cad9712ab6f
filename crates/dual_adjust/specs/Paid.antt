-- For private functions alone: no public contract cites this page.
-- The sites that a customer pays.
use Rattle.std.specs.Prelude.{◌≡◌, ◌≢◌, ℕ, ◌<◌, ◌==◌, ◌&&◌, Bool, true, List, length, filter, All, AllPairs, Contains, Option, None, Some, ℤ, int_lt, if◌then◌else◌}
use Rattle.std.specs.List.{list_any}
use Rattle.std.specs.Int.{int_max}
use Rattle.location_terms.specs.Instance.{Instance, site_at, customer_at}
use Rattle.location_terms.specs.Box.{Path, is_allowed}
use Rattle.location_terms.specs.Bound.{Duals, v_at, level_at}
use Rattle.dual_ascent.specs.Levels.{levels_of}
use Rattle.dual_adjust.specs.Slackness.{is_tight}

-- the customer pays the site: the lane is allowed, and its level is below the customer's dual
abbrev pub is_paid : Instance → Path → Duals → ℕ → ℕ → Bool
is_paid I path d i j = is_allowed I path (site_at I i) (customer_at I j) && int_lt (level_at I d i j) (v_at d j)

-- the level of the lane, where the customer pays the site
abbrev pub paid_level : Instance → Path → Duals → ℕ → ℕ → Option ℤ
paid_level I path d i j = if is_paid I path d i j then Some (level_at I d i j) else None

-- the customer pays the site, and the site is tight
abbrev pub is_paid_tight : Instance → Path → Duals → ℕ → ℕ → Bool
is_paid_tight I path d i j = is_tight I path d i && is_paid I path d i j

-- the levels below the customer's dual
abbrev pub levels_below : Instance → Path → Duals → ℕ → List ℤ
levels_below I path d j = filter (λ l. int_lt l (v_at d j)) (levels_of I path d j)

-- the greater of two numbers, where one may be missing
abbrev pub greater_of : Option ℤ → Option ℤ → Option ℤ
greater_of None b = b
greater_of (Some x) None = Some x
greater_of (Some x) (Some y) = Some (int_max x y)

-- the site at the place has one of these ids
abbrev pub is_named : Instance → List ℕ → ℕ → Bool
is_named I ids i = list_any (λ s. s == (site_at I i).id) ids

-- the places of the sites that have one of these ids, each once
pub record ArePlacesOf (I : Instance) (ids places : List ℕ) : Type 0 where
  pub apart : AllPairs (λ i k. i ≢ k) places
  pub known : All (λ i. i < length I.sites) places
  pub named : All (λ i. is_named I ids i ≡ true) places
  pub all : (i : ℕ) → i < length I.sites → is_named I ids i ≡ true → Contains places i

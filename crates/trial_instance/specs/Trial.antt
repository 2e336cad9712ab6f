-- The instance that three numbers stand for: a seed, a number of sites and a number of customers. Sites and customers are places in a square of 1,000 by 1,000 units.
use Rattle.std.specs.Prelude.{ℕ, ◌+◌, ◌*◌, ◌%◌, List, map, replicate, Option, None, Some}
use Rattle.std.specs.Int.{abs_diff}
use Rattle.std.specs.List.{range_with_len}
use Rattle.location_terms.specs.Instance.{Instance}
use Rattle.instance_store.specs.Numbered.{numbered_by_site}
use Rattle.instance_store.specs.declared.numbered.SiteLanes.{SiteLanes}
use Rattle.trial_instance.specs.Draws.{draw_at}
use Rattle.trial_instance.specs.declared.square.Place.{Place}
use Rattle.trial_instance.specs.declared.square.PlacedSite.{PlacedSite}

-- the place that two draws give, the first of them number k
abbrev pub place_at : ℕ → ℕ → Place
place_at seed k = record { x = draw_at seed k % 1000; y = draw_at seed (k + 1) % 1000 }

-- the site that three draws give, the first of them number k: its place, and what it costs to open it, from 500 units on
abbrev pub placed_site_at : ℕ → ℕ → PlacedSite
placed_site_at seed k = record { place = place_at seed k; opening = 500 + draw_at seed (k + 2) % 1000 }

-- site i, counted from 0: the sites take the first draws
abbrev pub trial_site : ℕ → ℕ → PlacedSite
trial_site seed i = placed_site_at seed (3 * i)

-- the place of customer j, counted from 0: the customers take the draws behind those of m sites
abbrev pub trial_customer : ℕ → ℕ → ℕ → Place
trial_customer seed m j = place_at seed (3 * m + 2 * j)

-- how far it is from place to place along the sides of the square
abbrev pub distance : Place → Place → ℕ
distance a b = abs_diff a.x b.x + abs_diff a.y b.y

-- units as millionths
abbrev pub micro_of : ℕ → ℕ
micro_of units = 1000000 * units

-- the lane from a site to a customer costs their distance
abbrev pub lane_to : Place → Place → Option ℕ
lane_to site customer = Some (micro_of (distance site customer))

-- a site without a capacity, with its lanes to customers in these places
abbrev pub site_lanes : List Place → PlacedSite → SiteLanes
site_lanes customers s = record { site = record { fixed = micro_of s.opening; cap = None }; lanes = map (lane_to s.place) customers }

-- the first sites and customers of a seed
abbrev pub trial_sites : ℕ → ℕ → List PlacedSite
trial_sites seed m = map (trial_site seed) (range_with_len 0 m)

abbrev pub trial_customers : ℕ → ℕ → ℕ → List Place
trial_customers seed m n = map (trial_customer seed m) (range_with_len 0 n)

-- the instance of a seed, so many sites and so many customers, who demand nothing; any number of sites may open
unfoldable pub trial_meaning : ℕ → ℕ → ℕ → Instance
trial_meaning seed m n = numbered_by_site (map (site_lanes (trial_customers seed m n)) (trial_sites seed m)) (replicate n 0)

-- Complementary slackness: the tight sites, and the customers that pay more than one of them.
-- After Erlenkotter, Operations Research 26 (1978).
use Rattle.std.specs.Prelude.{ℕ, ◌==◌, ◌&&◌, ◌||◌, Bool, List, length, map, filter, pos, int_lt, int_le, nat_lt}
use Rattle.std.specs.List.{list_any}
use Rattle.location_terms.specs.Instance.{Instance, site_at, customer_at}
use Rattle.location_terms.specs.Box.{Path, is_opened, is_free}
use Rattle.location_terms.specs.Bound.{Duals, v_at, level_at, slack_of}
use Rattle.dual_ascent.specs.Levels.{site_places, customer_places, servers}

-- the site is opened, or free with nothing left of its slack
abbrev pub is_tight : Instance → Path → Duals → ℕ → Bool
is_tight I path d i = is_opened path (site_at I i) || (is_free path (site_at I i) && int_le (slack_of I path d i) (pos 0))

-- the ids of these sites, in order
abbrev pub tight_sites : Instance → Path → Duals → List ℕ
tight_sites I path d = map (λ i. (site_at I i).id) (filter (is_tight I path d) (site_places I))

-- the places of the sites of these ids that the customer pays: those with an allowed lane of a level below its dual
abbrev pub paid_places : Instance → Path → Duals → List ℕ → ℕ → List ℕ
paid_places I path d sites j = filter (λ i. list_any (λ s. s == (site_at I i).id) sites && int_lt (level_at I d i j) (v_at d j)) (servers I path j)

-- the customer pays more than one of the sites of these ids
abbrev pub is_violating : Instance → Path → Duals → List ℕ → ℕ → Bool
is_violating I path d sites j = nat_lt 1 (length (paid_places I path d sites j))

-- the ids of these customers, in order
abbrev pub violations : Instance → Path → Duals → List ℕ → List ℕ
violations I path d sites = map (λ j. (customer_at I j).id) (filter (is_violating I path d sites) (customer_places I))
